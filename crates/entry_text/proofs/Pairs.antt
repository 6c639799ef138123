-- Two elements of one tag in a SEQUENCE, as the ends of a range, for whatever reads the two. Assumes nothing.
use Rattle.std.proofs.Common.{◌≡◌, ℕ, ◌+◌, ◌≤◌, List, [], ◌++◌, length, Some, Ok, Option, Result, sym, ap, ◌∙◌, subst, append-nil}
use Rattle.fault.specs.declared.Report.{Report}
use Rattle.fault.specs.declared.Layer.TheVariants.{Set}
use Rattle.content.specs.Tags.{kind_of}
use Rattle.content.specs.Grammar.{ContentOf}
use Rattle.element.specs.Lengths.{longest, encoded}
use Rattle.element.specs.Reading.{Seen, Octets}
use Rattle.layout.specs.Expecting.{then_read, expect_of, end_of}
use Rattle.prefixes.specs.Theorems.{Octets as EachOctet}
use Rattle.entries.specs.Addresses.{given}
use Rattle.entry_text.proofs.Elements.{each_rest, then_ok, ok_same, given_ok, expected, ended, rest_at, expect-text}

module _ (t : ℕ) (lo hi : List ℕ → Option ℕ) (tested : ℕ → ℕ → ℕ → Result (Unit {0}) Report) where
  -- the second end, after a first one
  abbrev pub second_of : ℕ → Octets → Result (ℕ × ℕ × Octets) Report
  second_of a q =
      then_read (expect_of Set t q) (λ high.
      then_read (given high.0.place (hi high.0.content)) (λ z.
      then_read (tested high.0.place a z) (λ _. Ok (a, z, high.1))))

  abbrev pub ends_of : Octets → Result (ℕ × ℕ × Octets) Report
  ends_of q =
      then_read (expect_of Set t q) (λ low.
      then_read (given low.0.place (lo low.0.content)) (λ a. second_of a low.1))

  -- nothing after them
  abbrev pub closed : Result (ℕ × ℕ × Octets) Report → Result (ℕ × ℕ) Report
  closed r = then_read r (λ h. then_read (end_of Set h.2) (λ _. Ok (h.0, h.1)))

  abbrev pub both_of : Octets → Result (ℕ × ℕ) Report
  both_of q = closed (ends_of q)

  -- ---- what is written is read

  step : {V W : Type 0} (r : Result V Report) (x : V) (k : V → Result W Report) → r ≡ Ok x → then_read r k ≡ k x
  step r x k e = ap (λ (y : Result _ Report). then_read y k) e

  -- a content that is read as a number
  pub record Half (read : List ℕ → Option ℕ) (c : List ℕ) (n : ℕ) : Type 0 where
    pub short : length c ≤ longest
    pub form : ContentOf (kind_of t) c
    pub value : read c ≡ Some n

  second_back :
      (at a z : ℕ) (c q : List ℕ) → Half hi c z → ((place : ℕ) → tested place a z ≡ Ok tt)
      → second_of a record { octets = encoded t c ++ q; place = at } ≡ Ok (a, z, rest_at at t c q)
  second_back at a z c q h go =
      step _ _ _ (expect-text Set at t c q h.short h.form)
      ∙ ap (λ (o : Option ℕ). then_read (given at o) (λ y. then_read (tested at a y) (λ _. Ok (a, y, rest_at at t c q)))) h.value
      ∙ step _ _ _ (go at)

  pub pair-back :
      (at a z : ℕ) (c d : List ℕ) → Half lo c a → Half hi d z → ((place : ℕ) → tested place a z ≡ Ok tt)
      → both_of record { octets = encoded t c ++ encoded t d; place = at } ≡ Ok (a, z)
  pair-back at a z c d h g go =
      ap (λ (r : Result (Seen × Octets) Report). closed (then_read r (λ low. then_read (given low.0.place (lo low.0.content)) (λ x. second_of x low.1))))
      (expect-text Set at t c (encoded t d) h.short h.form)
      ∙ ap (λ (o : Option ℕ). closed (then_read (given at o) (λ x. second_of x (rest_at at t c (encoded t d))))) h.value
      ∙ ap (λ (x : List ℕ). closed (second_of a (rest_at at t c x))) (sym (append-nil (encoded t d)))
      ∙ ap closed (second_back (at + length (encoded t c)) a z d [] g go)

  -- ---- what is read is written

  pub record Read (s : List ℕ) (a z : ℕ) : Type 0 where
    pub low : List ℕ
    pub high : List ℕ
    pub octets : s ≡ encoded t low ++ encoded t high
    pub first : Half lo low a
    pub second : Half hi high z
    pub place : ℕ
    pub passed : tested place a z ≡ Ok tt

  pub pair_read : (q : Octets) (a z : ℕ) → EachOctet q.octets → both_of q ≡ Ok (a, z) → Read q.octets a z
  pair_read q a z o e =
      let end : ℕ × ℕ × Octets → Result (ℕ × ℕ) Report = λ h. then_read (end_of Set h.2) (λ _. Ok (h.0, h.1)) in
      let h = then_ok (ends_of q) end (a, z) e in
      let i = then_ok (end_of Set h.0.2) _ (a, z) h.2 in
      let none = ended Set h.0.2 i.0 i.1 in
      let j = then_ok (expect_of Set t q) _ h.0 h.1 in
      let low = j.0 in
      let b = expected Set t q low o j.1 in
      let k = then_ok (given low.0.place (lo low.0.content)) _ h.0 j.2 in
      let l = then_ok (expect_of Set t low.1) _ h.0 k.2 in
      let high = l.0 in
      let or = each_rest (encoded t low.0.content) low.1.octets (subst EachOctet b.octets o) in
      let d = expected Set t low.1 high or l.1 in
      let m = then_ok (given high.0.place (hi high.0.content)) _ h.0 l.2 in
      let n = then_ok (tested high.0.place k.0 m.0) _ h.0 m.2 in
      let ends : ◌≡◌ {A = ℕ × ℕ × Octets} (k.0, m.0, high.1) h.0 = ok_same _ _ n.2 in
      let both : ◌≡◌ {A = ℕ × ℕ} (h.0.0, h.0.1) (a, z) = ok_same _ _ i.2 in
      let ea : k.0 ≡ a = ap (λ (x : ℕ × ℕ × Octets). x.0) ends ∙ ap (λ (x : ℕ × ℕ). x.0) both in
      let ez : m.0 ≡ z = ap (λ (x : ℕ × ℕ × Octets). x.1) ends ∙ ap (λ (x : ℕ × ℕ). x.1) both in
      let er : high.1.octets ≡ [] = ap (λ (x : ℕ × ℕ × Octets). x.2.octets) ends ∙ none in
      record {
        low = low.0.content;
        high = high.0.content;
        octets = b.octets ∙ ap (λ (x : List ℕ). encoded t low.0.content ++ x) (d.octets ∙ ap (λ (x : List ℕ). encoded t high.0.content ++ x) er ∙ append-nil (encoded t high.0.content));
        first = record { short = b.short; form = b.form; value = given_ok _ _ _ k.1 ∙ ap Some ea };
        second = record { short = d.short; form = d.form; value = given_ok _ _ _ m.1 ∙ ap Some ez };
        place = high.0.place;
        passed = ap (λ (x : ℕ). tested high.0.place x z) (sym ea) ∙ ap (tested high.0.place k.0) (sym ez) ∙ n.1;
      }
