-- Reading what was written, and writing what was read. Assumes nothing.
use Rattle.std.proofs.Common.{◌≡◌, ℕ, zero, suc, ◌+◌, ◌*◌, ◌<◌, ◌≤◌, true, cond, eqb, List, [], ◌∷◌, ◌++◌, length, Some, None, Ok, Err, Option, Result, sym, refl, ap, ◌∙◌, subst, inl, inr, append-nil, arith, length-append}
use Rattle.std.specs.List.{AllByRecursion, flat_map}
use Rattle.std.proofs.lemmas.List.{nil_from_length}
use Rattle.std.proofs.lemmas.Bool.{lt-ltb, ltb-true, ne_eqb, eq-eqb, cases_eq, cond-true, cond-false}
use Rattle.fault.specs.declared.Report.{Report}
use Rattle.fault.specs.declared.ElementFault.{ElementFault}
use Rattle.element.specs.Lengths.{encoded}
use Rattle.element.specs.Reading.{Seen, Octets, read_of}
use Rattle.prefixes.specs.Theorems.{Octets as EachOctet}
use Rattle.ranges.specs.declared.Range.{Range}
use Rattle.ranges.specs.Sets.{Fit, Ascending}
use Rattle.ranges.proofs.Tested.{past_all}
use Rattle.lists.specs.Entries.{Reading, is_apart, ordered, entry_in, entry_with, after, on_read, no_more, entries_of}
use Rattle.entry_text.specs.Laws.{Sound, WrittenAs, EntryLaws}
use Rattle.entry_text.proofs.Elements.{each_rest, element_at, read-text, cond_ok, ok_same}
use Rattle.list_writer.specs.Texts.{entries_text, list_text}
use Rattle.list_writer.specs.Laws.{ReadsBack, WrittenAgain, OneList}

module _ {P : Type 0} (rank : P → ℕ) (fits : P → Type 0) (entry : Seen → Result (Range P) Report) (text : Range P → List ℕ) (laws : EntryLaws rank fits entry text) where
  abbrev Left : ℕ → Option (Range P) → Octets → Reading P
  Left = entries_of rank entry

  -- ---- reading what was written

  -- the first of the ranges stands apart from the one before
  abbrev Next : Option (Range P) → List (Range P) → Type 0
  Next before [] = Unit {0}
  Next before (r ∷ rs) = is_apart rank before r ≡ true

  next_of : (r : Range P) (rs : List (Range P)) → AllByRecursion (λ s. rank r.last + 1 < rank s.first) rs → Next (Some r) rs
  next_of r [] a = tt
  next_of r (s ∷ rs) a = lt-ltb _ _ a.0

  first_next : (rs : List (Range P)) → Next None rs
  first_next [] = tt
  first_next (r ∷ rs) = refl

  none_read : (room : ℕ) (before : Option (Range P)) (at : ℕ) → Left room before record { octets = []; place = at } ≡ ([], Ok tt)
  unfolding entries_of
  none_read zero before at = refl
  none_read (suc room) before at = refl

  -- one entry, and then those that the rest reads as
  one-read :
      (room : ℕ) (before : Option (Range P)) (at : ℕ) (r : Range P) (q : List ℕ) (rs : List (Range P)) → Sound rank fits r → is_apart rank before r ≡ true
      → Left room (Some r) record { octets = q; place = at + length (text r) } ≡ (rs, Ok tt)
      → Left (suc room) before record { octets = text r ++ q; place = at } ≡ (r ∷ rs, Ok tt)
  unfolding entries_of
  one-read room before at r q rs sound apart e =
      let w = laws.reads_back r sound at q in
      let n = length-append (text r) q in
      let some = laws.some r in
      let full : length (text r ++ q) ≡ 0 → ⊥ = λ z. omega arith in
      cond-false (eqb (length (text r ++ q)) 0) _ _ (ne_eqb _ _ full)
      ∙ ap (on_read rank entry (Left room) (suc room) before) w.read
      ∙ ap (λ (x : Result (Range P) Report). after rank entry (Left room) record { octets = q; place = at + length (text r) } (ordered rank before w.element.place x)) w.says
      ∙ ap (after rank entry (Left room) record { octets = q; place = at + length (text r) }) (cond-true (is_apart rank before r) (Ok r) _ apart)
      ∙ ap (λ (x : Reading P). (r ∷ x.0, x.1)) e

  read-on :
      (rs : List (Range P)) (room : ℕ) (before : Option (Range P)) (at : ℕ) → length rs ≤ room → Next before rs → Ascending rank rs → Fit fits rs
      → Left room before record { octets = entries_text text rs; place = at } ≡ (rs, Ok tt)
  unfolding entries_text
  read-on [] room before at l n a f = none_read room before at
  read-on (r ∷ rs) zero before at l n a f = absurd (omega arith)
  read-on (r ∷ rs) (suc room) before at l n a f =
      one-read room before at r (flat_map text rs) rs (record { first_fits = f.0.0; last_fits = f.0.1; forward = a.0 }) n
      (read-on rs room (Some r) (at + length (text r)) (omega arith) (next_of r rs a.1) a.2 f.1)

  pub entries_length : (rs : List (Range P)) → length (entries_text text rs) ≤ 40 * length rs
  unfolding entries_text
  entries_length [] = omega arith
  entries_length (r ∷ rs) =
      let h = entries_length rs in
      let s = laws.short r in
      let n = length-append (text r) (flat_map text rs) in
      omega arith

  pub reads_back : ReadsBack rank fits entry text
  unfolding list_text
  reads_back rs law fit at =
      let c = entries_text text rs in
      let m = entries_length rs in
      let few = law.0.1 in
      record {
        element = element_at at 48 c;
        read = subst (λ (x : List ℕ). read_of x at ≡ Ok (element_at at 48 c, record { octets = []; place = at + length (encoded 48 c) })) (append-nil (encoded 48 c)) (read-text at 48 c [] (omega arith) tt);
        tag = refl;
        entries = read-on rs 256 None (element_at at 48 c).content_place few (first_next rs) law.1 fit;
      }

  pub one_list : OneList rank fits entry text
  one_list xs ys lx ly fx fy e =
      let p = reads_back xs lx fx 0 in
      let q = reads_back ys ly fy 0 in
      let r : ◌≡◌ {A = Seen × Octets} (p.element, record { octets = []; place = 0 + length (list_text text xs) }) (q.element, record { octets = []; place = 0 + length (list_text text ys) }) =
      ok_same _ _ (sym p.read ∙ ap (λ (x : List ℕ). read_of x 0) e ∙ q.read) in
      let s : p.element ≡ q.element = ap (λ (x : Seen × Octets). x.0) r in
      ap (λ (x : Reading P). x.0) (sym p.entries ∙ ap (λ (x : Seen). Left 256 None record { octets = x.content; place = x.content_place }) s ∙ q.entries)

  -- ---- writing what was read

  same_reading : (xs ys : List (Range P)) (e f : Result (Unit {0}) Report) → ◌≡◌ {A = Reading P} (xs, e) (ys, f) → (xs ≡ ys) × (e ≡ f)
  same_reading xs ys e f p = (ap (λ (x : Reading P). x.0) p, ap (λ (x : Reading P). x.1) p)

  never : (f : Report) → ◌≡◌ {A = Result (Unit {0}) Report} (Err f) (Ok tt) → ⊥
  never f e = let z : ◌≡◌ {A = ℕ} 0 1 = cc in omega arith

  -- an element was read
  element-was :
      (more : Option (Range P) → Octets → Reading P) (room : ℕ) (before : Option (Range P)) (x : Result (Seen × Octets) ElementFault) (rs : List (Range P))
      → on_read rank entry more room before x ≡ (rs, Ok tt)
      → (p : Seen × Octets) × (x ≡ Ok p) × (after rank entry more p.1 (entry_with rank entry room before p.0) ≡ (rs, Ok tt))
  element-was more room before (Ok p) rs e = (p, refl, e)
  element-was more room before (Err f) rs e = absurd (never _ (same_reading _ _ _ _ e).1)

  -- a range was read
  entry-was :
      (more : Option (Range P) → Octets → Reading P) (q : Octets) (x : Result (Range P) Report) (rs : List (Range P)) → after rank entry more q x ≡ (rs, Ok tt)
      → (r : Range P) × (x ≡ Ok r) × (◌≡◌ {A = Reading P} (r ∷ (more (Some r) q).0, (more (Some r) q).1) (rs, Ok tt))
  entry-was more q (Ok r) rs e = (r, refl, e)
  entry-was more q (Err f) rs e = absurd (never _ (same_reading _ _ _ _ e).1)

  order-was :
      (before : Option (Range P)) (place : ℕ) (x : Result (Range P) Report) (r : Range P) → ordered rank before place x ≡ Ok r → (x ≡ Ok r) × (is_apart rank before r ≡ true)
  order-was before place (Ok y) r e =
      let h = cond_ok (is_apart rank before y) y r _ e in
      (ap Ok h.1, subst (λ (z : Range P). is_apart rank before z ≡ true) h.1 h.0)
  order-was before place (Err f) r e = let z : ◌≡◌ {A = ℕ} 0 1 = cc in absurd (omega arith)

  -- what the ranges that were read are
  record Was (s : List ℕ) (room : ℕ) (before : Option (Range P)) (rs : List (Range P)) : Type 0 where
    octets : s ≡ entries_text text rs
    few : length rs ≤ room
    next : Next before rs
    order : Ascending rank rs
    fit : Fit fits rs

  was_none : (room : ℕ) (before : Option (Range P)) (s : List ℕ) (rs : List (Range P)) → s ≡ [] → [] ≡ rs → Was s room before rs
  unfolding entries_text
  was_none room before s rs e f =
      subst (Was s room before) f (record { octets = e; few = omega arith; next = tt; order = tt; fit = tt })

  gap : (r : Range P) (rs : List (Range P)) → Next (Some r) rs → Ascending rank rs → AllByRecursion (λ s. rank r.last + 1 < rank s.first) rs
  gap r [] n a = tt
  gap r (s ∷ ss) n a = past_all rank (rank r.last + 1) s ss (ltb-true _ _ n) a

  was-more :
      (room : ℕ) (before : Option (Range P)) (s q : List ℕ) (r : Range P) (rs : List (Range P)) → WrittenAs rank fits entry text s q r → is_apart rank before r ≡ true
      → Was q room (Some r) rs → Was s (suc room) before (r ∷ rs)
  unfolding entries_text
  was-more room before s q r rs w apart h =
      let few = h.few in
      record {
        octets = w.octets ∙ ap (λ (x : List ℕ). text r ++ x) h.octets;
        few = omega arith;
        next = apart;
        order = (w.sound.forward, gap r rs h.next h.order, h.order);
        fit = ((w.sound.first_fits, w.sound.last_fits), h.fit);
      }

  empty_was : (room : ℕ) (before : Option (Range P)) (q : Octets) (rs : List (Range P)) (x : Reading P) → length q.octets ≡ 0
      → cond (eqb (length q.octets) 0) ([], Ok tt) x ≡ (rs, Ok tt) → Was q.octets room before rs
  empty_was room before q rs x none e =
      let h = sym (cond-true (eqb (length q.octets) 0) ([], Ok tt) x (eq-eqb _ _ none)) ∙ e in
      was_none room before q.octets rs (nil_from_length q.octets none) (same_reading _ _ _ _ h).0

  -- octets that are not at their end, by what was read there
  full_was : (q : Octets) (rs : List (Range P)) (x : Reading P) → (length q.octets ≡ 0 → ⊥) → cond (eqb (length q.octets) 0) ([], Ok tt) x ≡ (rs, Ok tt) → x ≡ (rs, Ok tt)
  full_was q rs x some e = sym (cond-false (eqb (length q.octets) 0) ([], Ok tt) x (ne_eqb _ _ some)) ∙ e

  -- the first entry was read, and then the others
  first-was :
      (room : ℕ) → ((b : Option (Range P)) (p : Octets) (xs : List (Range P)) → EachOctet p.octets → Left room b p ≡ (xs, Ok tt) → Was p.octets room b xs)
      → (before : Option (Range P)) (q : Octets) (rs : List (Range P)) → EachOctet q.octets
      → on_read rank entry (Left room) (suc room) before (read_of q.octets q.place) ≡ (rs, Ok tt) → Was q.octets (suc room) before rs
  first-was room others before q rs o e =
      let a = element-was (Left room) (suc room) before (read_of q.octets q.place) rs e in
      let b = entry-was (Left room) a.0.1 (entry_in rank entry before a.0.0) rs a.2 in
      let c = order-was before a.0.0.place (entry a.0.0) b.0 b.1 in
      let w = laws.one_encoding q.octets q.place a.0.0 a.0.1 b.0 o a.1 c.0 in
      let d = same_reading _ _ _ _ b.2 in
      let m : Reading P = Left room (Some b.0) a.0.1 in
      let f : m ≡ (m.0, Ok tt) = ap (λ (x : Result (Unit {0}) Report). (m.0, x)) d.1 in
      let g = each_rest (text b.0) a.0.1.octets (subst EachOctet w.octets o) in
      subst (Was q.octets (suc room) before) d.0 (was-more room before q.octets a.0.1.octets b.0 m.0 w c.1 (others (Some b.0) a.0.1 m.0 g f))

  written_on : (room : ℕ) (before : Option (Range P)) (q : Octets) (rs : List (Range P)) → EachOctet q.octets → Left room before q ≡ (rs, Ok tt) → Was q.octets room before rs
  unfolding entries_of
  written_on zero before q rs o e =
      elim (cases_eq (length q.octets) 0) [
        | inl none ↦ empty_was zero before q rs _ none e
        | inr some ↦ (let a = element-was (no_more rank entry) zero before (read_of q.octets q.place) rs (full_was q rs _ some e) in absurd (never _ (same_reading _ _ _ _ a.2).1))
      ]
  written_on (suc room) before q rs o e =
      elim (cases_eq (length q.octets) 0) [
        | inl none ↦ empty_was (suc room) before q rs _ none e
        | inr some ↦ first-was room (written_on room) before q rs o (full_was q rs _ some e)
      ]

  pub written_again : WrittenAgain rank fits entry text
  unfolding list_text
  written_again content at rs o some e =
      let h = written_on 256 None record { octets = content; place = at } rs o e in
      record { octets = ap (encoded 48) h.octets; law = ((some, h.few), h.order); fit = h.fit }
