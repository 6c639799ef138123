-- What a part's octets say, and what reading them answers. Assumes nothing.
use Rattle.std.proofs.Common.{◌≡◌, ℕ, ◌<◌, Bool, true, false, cond, ◌||◌, eqb, ◌⊎◌, List, [], ◌∷◌, length, None, Ok, Err, Result, sym, refl, ap, ◌∙◌, subst, inl, inr, arith}
use Rattle.std.proofs.lemmas.Bool.{cond-true, cond-false, eq-eqb, ne_eqb, eqb-true, eqb-false, or_cases, or_left, or_right}
use Rattle.fault.specs.declared.Rule.TheVariants.{Structure, Value}
use Rattle.fault.specs.declared.Layer.TheVariants.{Set}
use Rattle.fault.specs.declared.Report.{Report}
use Rattle.fault.specs.declared.ElementFault.{ElementFault}
use Rattle.element.specs.Reading.{Seen, Octets, read_of}
use Rattle.layout.specs.Expecting.{any_tag, next_of, broken, then_read, end_of}
use Rattle.ranges.specs.declared.Range.{Range}
use Rattle.ranges.specs.Sets.{Lawful}
use Rattle.entries.specs.Addresses.{inside}
use Rattle.lists.specs.Entries.{Reading, entries_of, counted}
use Rattle.resources.specs.declared.Held.{Held}
use Rattle.resources.specs.declared.Held.TheVariants as held
use Rattle.resources.specs.declared.May.{May}
use Rattle.resources.specs.Parts.{allowed, chosen, choice_of, read_by, list_at, held_of, ranges_in, read_part, ranges_of}
use Rattle.resources.specs.Meaning.{Next, Ended, Only, Rows, Inherits, Lists, PartSays}
use Rattle.resources.proofs.Steps.{then_ok, cond_ok, cond_not, not_ended, end_ok, end_is}
use Rattle.resources.proofs.Rows.{Forward, entries_taken, follow_ascending, ascending_follow, rows-read}

-- the two tags by which a part is said
abbrev pub Says : ℕ → Type 0
Says t = (t ≡ 5) ⊎ (t ≡ 48)

any_ok : (x : Result (Seen × Octets) ElementFault) (p : Seen × Octets) → Ok p ≡ any_tag x → x ≡ Ok p
any_ok (Err f) p e = absurd cc
any_ok (Ok y) p e = cc

next_ok : (q : Octets) (p : Seen × Octets) → Ok p ≡ next_of Set q → Next q p.0 p.1
next_ok q p e =
    let h = cond_not (eqb (length q.octets) 0) Set Structure q.place (any_tag (read_of q.octets q.place)) p e in
    any_ok (read_of q.octets q.place) p h.1

tag_cases : (t : ℕ) → (eqb t 5 || eqb t 48) ≡ true → Says t
tag_cases t e = elim (or_cases (eqb t 5) (eqb t 48) e) [ inl h ↦ inl (eqb-true t 5 h) | inr h ↦ inr (eqb-true t 48 h) ]

tag_test : (t : ℕ) → Says t → (eqb t 5 || eqb t 48) ≡ true
tag_test t (inl h) = or_left (eqb t 5) (eqb t 48) (eq-eqb t 5 h)
tag_test t (inr h) = or_right (eqb t 5) (eqb t 48) (eq-eqb t 48 h)

pub record Chosen (m : May) (q : Octets) (p : Seen × Octets) : Type 0 where
  pub next : Next q p.0 p.1
  pub said : Says p.0.tag
  pub may : allowed m p.0.tag ≡ true

choice_ok : (m : May) (q : Octets) (p : Seen × Octets) → Ok p ≡ choice_of m q → Chosen m q p
choice_ok m q p e =
    let a = then_ok (next_of Set q) (chosen m) p e in
    let x = a.0 in
    let b = cond_ok (eqb x.0.tag 5 || eqb x.0.tag 48) Set Structure x.0.place (cond (allowed m x.0.tag) (Ok x) (broken Set Value x.0.place)) p a.2 in
    let c = cond_ok (allowed m x.0.tag) Set Value x.0.place (Ok x) p b.1 in
    let i : x ≡ p = (let k = c.1 in cc) in
    subst (λ (y : Seen × Octets). Chosen m q y) i
    (record { next = next_ok q x (sym a.1); said = tag_cases x.0.tag b.0; may = c.0 })

choice_is : (m : May) (q : Octets) (e : Seen) (after : Octets) → Next q e after → Says e.tag → allowed m e.tag ≡ true → choice_of m q ≡ Ok (e, after)
choice_is m q e after n s a =
    let next : next_of Set q ≡ Ok (e, after) =
    cond-false (eqb (length q.octets) 0) _ _ (ne_eqb _ _ (not_ended q e after n)) ∙ ap any_tag n in
    ap (λ (x : Result (Seen × Octets) Report). then_read x (chosen m)) next
    ∙ cond-true (eqb e.tag 5 || eqb e.tag 48) _ _ (tag_test e.tag s)
    ∙ cond-true (allowed m e.tag) _ _ a

-- where the test passes, what follows is refused; where it does not, the same refusal comes from it
either_way :
    {V W : Type 0} (b : Bool) (v : V) (k : V → Result W Report) {place : ℕ} → k v ≡ broken Set Value place
    → then_read (cond b (Ok v) (broken Set Value place)) k ≡ broken Set Value place
either_way true v k e = e
either_way false v k e = refl

module _ {P : Type 0} (rank : P → ℕ) (entry : Seen → Result (Range P) Report) where
  counted_ok : (x : Reading P) (n : ℕ) → Ok n ≡ counted x → (x ≡ (x.0, Ok tt)) × (n ≡ length x.0)
  counted_ok x n e =
      let a = then_ok x.1 (λ _. Ok (length x.0)) n e in
      let k = a.2 in
      (ap (λ (o : Result (Unit {0}) Report). (x.0, o)) a.1, cc)

  some_rows_lem : (q : Octets) (rs : List (Range P)) → (Ended q → ⊥) → Rows rank entry q rs → 0 < length rs
  some_rows_lem q [] some w = absurd (some w)
  some_rows_lem q (r ∷ rs) some w = omega arith

  list-says :
      Forward rank entry → (m : May) (q : Octets) (e : Seen) (h : Held) → Only q 48 e → allowed m 48 ≡ true
      → eqb (length e.content) 0 ≡ false
      → Ok h ≡ list_at rank entry e.place (counted (entries_of rank entry 256 None (inside e)))
      → PartSays rank entry m q h (entries_of rank entry 256 None (inside e)).0
  list-says fw m q e h only may some is =
      let x = entries_of rank entry 256 None (inside e) in
      let a = then_ok (counted x) (λ n. Ok (held.List e.place n)) h is in
      let b = counted_ok x a.0 (sym a.1) in
      let t = entries_taken rank entry fw 256 None (inside e) x.0 b.0 in
      let i : held.List e.place a.0 ≡ h = (let k = a.2 in cc) in
      let l : Lawful rank x.0 =
      ((some_rows_lem (inside e) x.0 (eqb-false (length e.content) 0 some) t.rows, t.few), follow_ascending rank entry None x.0 t.follow) in
      subst (λ (y : Held). PartSays rank entry m q y x.0) i
      (record { list = e; only = only; may = may; stands = refl; rows = t.rows; law = l }, b.1)

  null-says :
      (m : May) (q : Octets) (e : Seen) (h : Held) → Only q 5 e → allowed m 5 ≡ true → ◌≡◌ {A = Result Held Report} (Ok h) (Ok held.Inherited) → PartSays rank entry m q h []
  null-says m q e h only may is =
      let i : held.Inherited ≡ h = cc in
      subst (λ (y : Held). PartSays rank entry m q y []) i (record { null = e; only = only; may = may }, refl)

  -- by the two tests: whether it is a NULL, and whether the list is empty
  tests-say :
      Forward rank entry → (null empty : Bool) (m : May) (q : Octets) (e : Seen) (h : Held)
      → (null ≡ true → Only q 5 e × (allowed m 5 ≡ true)) → (null ≡ false → Only q 48 e × (allowed m 48 ≡ true)) → eqb (length e.content) 0 ≡ empty
      → Ok h ≡ cond null (Ok held.Inherited) (cond empty (broken Set Value e.place) (list_at rank entry e.place (counted (entries_of rank entry 256 None (inside e)))))
      → PartSays rank entry m q h (cond null [] (cond empty [] (entries_of rank entry 256 None (inside e)).0))
  tests-say fw true empty m q e h five other i is = let f = five refl in null-says m q e h f.0 f.1 is
  tests-say fw false true m q e h five other i is = absurd cc
  tests-say fw false false m q e h five other i is = let f = other refl in list-says fw m q e h f.0 f.1 i is

  only_null : (m : May) (q : Octets) (p : Seen × Octets) → Chosen m q p → Ended p.1 → eqb p.0.tag 5 ≡ true → Only q 5 p.0 × (allowed m 5 ≡ true)
  only_null m q p c n t =
      let i = eqb-true p.0.tag 5 t in
      (record { after = p.1; next = c.next; tagged = i; ended = n }, ap (allowed m) (sym i) ∙ c.may)

  only_list : (m : May) (q : Octets) (p : Seen × Octets) → Chosen m q p → Ended p.1 → eqb p.0.tag 5 ≡ false → Only q 48 p.0 × (allowed m 48 ≡ true)
  only_list m q p c n t =
      let not_null = eqb-false p.0.tag 5 t in
      let i : p.0.tag ≡ 48 = elim c.said [ inl h ↦ absurd (not_null h) | inr h ↦ h ] in
      (record { after = p.1; next = c.next; tagged = i; ended = n }, ap (allowed m) (sym i) ∙ c.may)

  -- what a part's octets were read as, they say
  pub part_says :
      Forward rank entry → (m : May) (q : Octets) (h : Held) → Ok h ≡ read_part rank entry m q → PartSays rank entry m q h (ranges_of rank entry m q)
  unfolding read_part ranges_of
  part_says fw m q h e =
      let a = then_ok (choice_of m q) _ h e in
      let p = a.0 in
      let b = then_ok (held_of rank entry p.0) _ h a.2 in
      let c = then_ok (end_of Set p.1) _ h b.2 in
      let n : Ended p.1 = end_ok Set p.1 (sym c.1) in
      let i : Ok h ≡ held_of rank entry p.0 = c.2 ∙ sym b.1 in
      let x = choice_ok m q p (sym a.1) in
      subst (λ (rs : List (Range P)). PartSays rank entry m q h rs) (sym (ap (λ (y : Result (Seen × Octets) Report). read_by y (λ p. ranges_in rank entry p.0)) a.1))
      (tests-say fw (eqb p.0.tag 5) (eqb (length p.0.content) 0) m q p.0 h (only_null m q p x n) (only_list m q p x n) refl i)

  -- a part by what its element says
  part_by :
      (m : May) (q : Octets) (e : Seen) (after : Octets) (h : Held) (rs : List (Range P)) → choice_of m q ≡ Ok (e, after) → Ended after
      → held_of rank entry e ≡ Ok h → ranges_in rank entry e ≡ rs → (read_part rank entry m q ≡ Ok h) × (ranges_of rank entry m q ≡ rs)
  unfolding read_part ranges_of
  part_by m q e after h rs c n is rows = (
    ap (λ (x : Result (Seen × Octets) Report). then_read x (λ p. then_read (held_of rank entry p.0) (λ h. then_read (end_of Set p.1) (λ _. Ok h)))) c
        ∙ ap (λ (x : Result Held Report). then_read x (λ h. then_read (end_of Set after) (λ _. Ok h))) is
        ∙ ap (λ (x : Result (Unit {0}) Report). then_read x (λ _. Ok h)) (end_is Set after n),
    ap (λ (x : Result (Seen × Octets) Report). read_by x (λ p. ranges_in rank entry p.0)) c ∙ rows,
  )

  rows_some : (q : Octets) (rs : List (Range P)) → 0 < length rs → Rows rank entry q rs → Ended q → ⊥
  rows_some q [] some w n = omega arith
  rows_some q (r ∷ rs) some w n = not_ended q w.0 w.1 w.2 n

  list-is :
      (m : May) (q : Octets) (place : ℕ) (rs : List (Range P)) → Lists rank entry m q place rs
      → (read_part rank entry m q ≡ Ok (held.List place (length rs))) × (ranges_of rank entry m q ≡ rs)
  list-is m q place rs l =
      let e = l.list in
      let t = l.only.tagged in
      let n = l.law.0 in
      let not_null : eqb e.tag 5 ≡ false = ne_eqb e.tag 5 (λ h. omega arith) in
      let some : eqb (length e.content) 0 ≡ false = ne_eqb _ _ (rows_some (inside e) rs n.0 l.rows) in
      let all : entries_of rank entry 256 None (inside e) ≡ (rs, Ok tt) =
      rows-read rank entry 256 None (inside e) rs l.rows n.1 (ascending_follow rank entry rs l.law.1) in
      part_by m q e l.only.after (held.List place (length rs)) rs
      (choice_is m q e l.only.after l.only.next (inr t) (ap (allowed m) t ∙ l.may))
      l.only.ended
      (cond-false (eqb e.tag 5) _ _ not_null
      ∙ cond-false (eqb (length e.content) 0) _ _ some
      ∙ ap (λ (x : Reading P). list_at rank entry e.place (counted x)) all
      ∙ ap (λ (k : ℕ). Ok (held.List k (length rs))) (sym l.stands))
      (cond-false (eqb e.tag 5) _ _ not_null
      ∙ cond-false (eqb (length e.content) 0) _ _ some
      ∙ ap (λ (x : Reading P). x.0) all)

  null_is : (m : May) (q : Octets) → Inherits rank entry m q → (read_part rank entry m q ≡ Ok held.Inherited) × (ranges_of rank entry m q ≡ [])
  null_is m q i =
      let e = i.null in
      let t = i.only.tagged in
      let null : eqb e.tag 5 ≡ true = eq-eqb e.tag 5 t in
      part_by m q e i.only.after held.Inherited []
      (choice_is m q e i.only.after i.only.next (inl t) (ap (allowed m) t ∙ i.may))
      i.only.ended
      (cond-true (eqb e.tag 5) _ _ null)
      (cond-true (eqb e.tag 5) _ _ null)

  -- what a part's octets say, they are read as
  pub part-is :
      (m : May) (q : Octets) (h : Held) (rs : List (Range P)) → PartSays rank entry m q h rs
      → (read_part rank entry m q ≡ Ok h) × (ranges_of rank entry m q ≡ rs)
  part-is m q held.Absent rs s = absurd s
  part-is m q held.Inherited rs s = let x = null_is m q s.0 in (x.0, x.1 ∙ sym s.1)
  part-is m q (held.List place n) rs s =
      let x = list-is m q place rs s.0 in
      (x.0 ∙ ap (λ (k : ℕ). Ok (held.List place k)) (sym s.1), x.1)

  -- a list of no entries is forbidden at its tag, whatever may stand there
  pub empty-refused :
      (m : May) (q : Octets) (e : Seen) (after : Octets) → Next q e after → e.tag ≡ 48 → length e.content ≡ 0
      → read_part rank entry m q ≡ broken Set Value e.place
  unfolding read_part ranges_of
  empty-refused m q e after n t none =
      let next : next_of Set q ≡ Ok (e, after) =
      cond-false (eqb (length q.octets) 0) _ _ (ne_eqb _ _ (not_ended q e after n)) ∙ ap any_tag n in
      let K = λ (p : Seen × Octets). then_read (held_of rank entry p.0) (λ h. then_read (end_of Set p.1) (λ _. Ok h)) in
      let c : choice_of m q ≡ cond (allowed m e.tag) (Ok (e, after)) (broken Set Value e.place) =
      ap (λ (x : Result (Seen × Octets) Report). then_read x (chosen m)) next
      ∙ cond-true (eqb e.tag 5 || eqb e.tag 48) _ _ (tag_test e.tag (inr t)) in
      let h : held_of rank entry e ≡ broken Set Value e.place =
      cond-false (eqb e.tag 5) _ _ (ne_eqb e.tag 5 (λ h. omega arith)) ∙ cond-true (eqb (length e.content) 0) _ _ (eq-eqb _ _ none) in
      ap (λ (x : Result (Seen × Octets) Report). then_read x K) c
      ∙ either_way (allowed m e.tag) (e, after) K (ap (λ (x : Result Held Report). then_read x (λ h. then_read (end_of Set after) (λ _. Ok h))) h)
