-- The entries of a list as rows, each of which says its range. Assumes nothing.
use Rattle.std.proofs.Common.{◌≡◌, ℕ, zero, suc, ◌≤◌, Bool, true, false, cond, eqb, List, [], ◌∷◌, length, Some, None, Ok, Err, Option, Result, sym, refl, ap, ◌∙◌, subst, arith}
use Rattle.std.proofs.lemmas.Bool.{cond-true, cond-false, eq-eqb, ne_eqb, eqb-true, and_from, le-leb, lt-ltb}
use Rattle.fault.specs.declared.Rule.TheVariants.{Order}
use Rattle.fault.specs.declared.Layer.TheVariants.{Set}
use Rattle.fault.specs.declared.Report.{Report}
use Rattle.fault.specs.declared.ElementFault.{ElementFault}
use Rattle.element.specs.Reading.{Seen, Octets, read_of}
use Rattle.ranges.specs.declared.Range.{Range}
use Rattle.ranges.specs.Sets.{Ascending}
use Rattle.ranges.specs.Walks.{gap_before, ascending}
use Rattle.ranges.proofs.Tested.{ascending_decides}
use Rattle.lists.specs.Entries.{Reading, is_apart, ordered, entry_with, after, on_read, no_more, entries_of}
use Rattle.resources.specs.Meaning.{Rows}
use Rattle.resources.proofs.Steps.{cond_ok, not_ended}

module _ {P : Type 0} (rank : P → ℕ) (entry : Seen → Result (Range P) Report) where
  abbrev Left : ℕ → Option (Range P) → Octets → Reading P
  Left = entries_of rank entry

  -- what reading goes on with after an entry
  abbrev Tail : ℕ → Option (Range P) → Octets → Reading P
  Tail zero = no_more rank entry
  Tail (suc room) = Left room

  abbrev opening : ℕ → Option (Range P) → Octets → Reading P
  opening room before q = on_read rank entry (Tail room) room before (read_of q.octets q.place)

  entries-are :
      (room : ℕ) (before : Option (Range P)) (q : Octets)
      → Left room before q ≡ cond (eqb (length q.octets) 0) ([], Ok tt) (opening room before q)
  unfolding entries_of
  entries-are zero before q = refl
  entries-are (suc room) before q = refl

  -- each range stands after the one before it, and none is empty
  abbrev pub Follow : Option (Range P) → List (Range P) → Type 0
  Follow before [] = Unit {0}
  Follow before (r ∷ rs) = (is_apart rank before r ≡ true) × (rank r.first ≤ rank r.last) × Follow (Some r) rs

  -- no entry says an empty range
  abbrev pub Forward : Type 0
  Forward = (e : Seen) (r : Range P) → entry e ≡ Ok r → rank r.first ≤ rank r.last

  -- an entry that is taken says its range, in its order
  ordered-ok :
      (before : Option (Range P)) (place : ℕ) (x : Result (Range P) Report) (r : Range P) → Ok r ≡ ordered rank before place x
      → (x ≡ Ok r) × (is_apart rank before r ≡ true)
  ordered-ok before place (Err f) r e = absurd cc
  ordered-ok before place (Ok s) r e =
      let h = cond_ok (is_apart rank before s) Set Order place (Ok s) r e in
      let i : r ≡ s = (let k = h.1 in cc) in
      (ap Ok (sym i), ap (is_apart rank before) i ∙ h.0)

  -- an entry and those after it, all of them taken
  after-ok :
      (more : Option (Range P) → Octets → Reading P) (q : Octets) (y : Result (Range P) Report) (rs : List (Range P))
      → after rank entry more q y ≡ (rs, Ok tt)
      → (r : Range P) × (ss : List (Range P)) × (y ≡ Ok r) × (more (Some r) q ≡ (ss, Ok tt)) × (r ∷ ss ≡ rs)
  after-ok more q (Err f) rs e =
      let h : Err f ≡ Ok tt = ap (λ (x : Reading P). x.1) e in
      absurd cc
  after-ok more q (Ok r) rs e =
      let ss = (more (Some r) q).0 in
      let h : (more (Some r) q).1 ≡ Ok tt = ap (λ (x : Reading P). x.1) e in
      (r, ss, refl, ap (λ (o : Result (Unit {0}) Report). (ss, o)) h, ap (λ (x : Reading P). x.0) e)

  read_ok :
      (more : Option (Range P) → Octets → Reading P) (room : ℕ) (before : Option (Range P)) (x : Result (Seen × Octets) ElementFault) (rs : List (Range P))
      → on_read rank entry more room before x ≡ (rs, Ok tt)
      → (p : Seen × Octets) × (x ≡ Ok p) × (after rank entry more p.1 (entry_with rank entry room before p.0) ≡ (rs, Ok tt))
  read_ok more room before (Err f) rs e =
      let h : Err _ ≡ Ok tt = ap (λ (x : Reading P). x.1) e in
      absurd cc
  read_ok more room before (Ok p) rs e = (p, refl, e)

  -- what a list's entries say where they were read to the end
  pub record Taken (room : ℕ) (before : Option (Range P)) (q : Octets) (rs : List (Range P)) : Type 0 where
    pub rows : Rows rank entry q rs
    pub few : length rs ≤ room
    pub follow : Follow before rs

  none_taken : (room : ℕ) (before : Option (Range P)) (q : Octets) (rs : List (Range P)) → length q.octets ≡ 0 → [] ≡ rs → Taken room before q rs
  none_taken room before q [] n e = record { rows = n; few = omega arith; follow = tt }
  none_taken room before q (r ∷ rs) n e = absurd cc

  -- every reading by `more` that comes to the end has taken its entries
  abbrev Good : (Option (Range P) → Octets → Reading P) → ℕ → Type 0
  Good more room = (before : Option (Range P)) (q : Octets) (rs : List (Range P)) → more before q ≡ (rs, Ok tt) → Taken room before q rs

  by-test :
      (b : Bool) (room : ℕ) (before : Option (Range P)) (q : Octets) (rs : List (Range P)) (rest : Reading P) → b ≡ eqb (length q.octets) 0
      → (rest ≡ (rs, Ok tt) → Taken room before q rs) → cond b ([], Ok tt) rest ≡ (rs, Ok tt) → Taken room before q rs
  by-test true room before q rs rest i k e = none_taken room before q rs (eqb-true _ _ (sym i)) (ap (λ (x : Reading P). x.0) e)
  by-test false room before q rs rest i k e = k e

  refused_past : (before : Option (Range P)) (e : Seen) (r : Range P) → entry_with rank entry 0 before e ≡ Ok r → ⊥
  refused_past before e r h = cc

  taken_none : Good (Left 0) 0
  taken_none before q rs e =
      by-test (eqb (length q.octets) 0) 0 before q rs (opening 0 before q) refl
      (λ h.
      let p = read_ok (Tail 0) 0 before (read_of q.octets q.place) rs h in
      let a = after-ok (Tail 0) p.0.1 (entry_with rank entry 0 before p.0.0) rs p.2 in
      absurd (refused_past before p.0.0 a.0 a.2))
      (sym (entries-are 0 before q) ∙ e)

  taken_more : Forward → (room : ℕ) → Good (Left room) room → Good (Left (suc room)) (suc room)
  taken_more fw room ih before q rs e =
      by-test (eqb (length q.octets) 0) (suc room) before q rs (opening (suc room) before q) refl
      (λ h.
      let p = read_ok (Left room) (suc room) before (read_of q.octets q.place) rs h in
      let x = p.0.0 in
      let a = after-ok (Left room) p.0.1 (entry_with rank entry (suc room) before x) rs p.2 in
      let r = a.0 in
      let o = ordered-ok before x.place (entry x) r (sym a.2) in
      let t = ih (Some r) p.0.1 a.1 a.3 in
      let few = t.few in
      subst (λ (l : List (Range P)). Taken (suc room) before q l) a.4
      (record { rows = (x, p.0.1, p.1, o.0, t.rows); few = omega arith; follow = (o.1, fw x r o.0, t.follow) }))
      (sym (entries-are (suc room) before q) ∙ e)

  -- entries that were read to the end
  pub entries_taken : Forward → (room : ℕ) → Good (Left room) room
  entries_taken fw zero = taken_none
  entries_taken fw (suc room) = taken_more fw room (entries_taken fw room)

  apart_all : (r : Range P) (rs : List (Range P)) → Follow (Some r) rs → gap_before rank r rs ≡ true
  apart_all r [] f = refl
  apart_all r (s ∷ ss) f = f.0

  follow_ascends : (before : Option (Range P)) (rs : List (Range P)) → Follow before rs → ascending rank rs ≡ true
  follow_ascends before [] f = refl
  follow_ascends before (r ∷ rs) f =
      and_from _ _ (and_from _ _ (le-leb _ _ f.1) (apart_all r rs f.2)) (follow_ascends (Some r) rs f.2)

  pub follow_ascending : (before : Option (Range P)) (rs : List (Range P)) → Follow before rs → Ascending rank rs
  follow_ascending before rs f = (ascending_decides rank rs).0 (follow_ascends before rs f)

  follow_next : (before : Option (Range P)) (r : Range P) (rs : List (Range P)) → is_apart rank before r ≡ true → Ascending rank (r ∷ rs) → Follow before (r ∷ rs)
  follow_next before r [] a s = (a, s.0, tt)
  follow_next before r (x ∷ xs) a s = (a, s.0, follow_next (Some r) x xs (lt-ltb _ _ s.1.0) s.2)

  pub ascending_follow : (rs : List (Range P)) → Ascending rank rs → Follow None rs
  ascending_follow [] s = tt
  ascending_follow (r ∷ rs) s = follow_next None r rs refl s

  -- entries in their order are read to the end
  pub rows-read :
      (room : ℕ) (before : Option (Range P)) (q : Octets) (rs : List (Range P)) → Rows rank entry q rs → length rs ≤ room → Follow before rs
      → Left room before q ≡ (rs, Ok tt)
  rows-read room before q [] n few f = entries-are room before q ∙ cond-true (eqb (length q.octets) 0) _ _ (eq-eqb _ _ n)
  rows-read zero before q (r ∷ rs) w few f = absurd (omega arith)
  rows-read (suc room) before q (r ∷ rs) w few f =
      let next = w.2 in
      let ih = rows-read room (Some r) w.1 rs w.4 (omega arith) f.2 in
      let o : entry_with rank entry (suc room) before w.0 ≡ Ok r =
      ap (ordered rank before w.0.place) w.3 ∙ cond-true (is_apart rank before r) _ _ f.0 in
      entries-are (suc room) before q
      ∙ cond-false (eqb (length q.octets) 0) _ _ (ne_eqb _ _ (not_ended q w.0 w.1 next))
      ∙ ap (on_read rank entry (Left room) (suc room) before) next
      ∙ ap (after rank entry (Left room) w.1) o
      ∙ ap (λ (x : Reading P). (r ∷ x.0, x.1)) ih
