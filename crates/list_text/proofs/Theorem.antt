-- A word is read as a list exactly where it is the list's text, and a text is read as its list. Assumes nothing.
use Rattle.std.proofs.Common.{◌≡◌, ℕ, Bool, true, cond, List, [], ◌∷◌, ◌++◌, map, Some, None, codes, Option, sym, refl, ap, ◌∙◌, subst, inl, inr}
use Rattle.std.specs.List.{AllByRecursion}
use Rattle.std.specs.Str.{bytes_eq}
use Rattle.std.proofs.lemmas.Slice.Eq.{bytes_eq-Decides}
use Rattle.std.proofs.lemmas.List.{append-nil}
use Rattle.std.proofs.lemmas.Bool.{cases_Bool}
use Rattle.pieces.specs.Marks.{pieces_of, joined, lacking, and_then, read_next, at_end}
use Rattle.pieces.proofs.Splits.{joined_pieces, pieces_joined, pieces_first}
use Rattle.point_words.proofs.Parts.{none_some, then_inv, end_inv, lacking_parts}
use Rattle.ranges.specs.declared.Range.{Range}
use Rattle.ranges.specs.Sets.{Fit}
use Rattle.list_text.specs.Lists.{consed, ends_of, range_of, all_ranges, list_of, range_text, tail_text, list_text, RangeWord, RangeWords, ListWord, ReadsList}

abbrev Words : Type 0
Words = List (List ℕ)

consed_inv : {A : Type 0} (a : Option A) (o : Option (List A)) (l : List A) → consed a o ≡ Some l → (x : A) × (xs : List A) × (a ≡ Some x) × (o ≡ Some xs) × (x ∷ xs ≡ l)
consed_inv None o l e = none_some l e
consed_inv (Some x) None l e = none_some l e
consed_inv (Some x) (Some xs) l e = (x, xs, refl, refl, cc)

-- the texts of ranges with commas between them, as they are printed
pub joined_tail : {P : Type 0} (text : P → List ℕ) (r : Range P) (rs : List (Range P)) → range_text text r ++ tail_text text rs ≡ list_text text (r ∷ rs)
joined_tail text r [] = append-nil (range_text text r)
joined_tail text r (s ∷ ss) = ap (λ (l : List ℕ). range_text text r ++ (44 ∷ l)) (joined_tail text s ss)

module _ {P : Type 0} (reads : List ℕ → Option P) where
  next_inv : (ws : Words) (p : P × Words) → read_next reads ws ≡ Some p → (w : List ℕ) × (ws ≡ w ∷ p.1) × (reads w ≡ Some p.0)
  next_inv [] p h = none_some p h
  next_inv (w ∷ ws) p h =
      let t = then_inv (reads w) (λ a. Some (a, ws)) p h in
      let e : (t.0, ws) ≡ p = cc in
      (w, ap (λ (q : P × Words). w ∷ q.1) e, t.1 ∙ ap (λ (q : P × Words). Some q.0) e)

  -- an end, and then the other
  abbrev then_last : Option P → Words → Option (Range P)
  then_last o ws = and_then {A = P × Words} {B = Range P} (and_then o (λ v. Some (v, ws))) (λ a. and_then (read_next reads a.1) (λ b. at_end b.1 (record { first = a.0; last = b.0 })))

  abbrev then_end : P → Option P → Option (Range P)
  then_end x o = and_then {A = P × Words} {B = Range P} (and_then o (λ v. Some (v, []))) (λ b. at_end b.1 (record { first = x; last = b.0 }))

  -- one end is no range
  one_end : (o : Option P) → then_last o [] ≡ None
  one_end None = refl
  one_end (Some x) = refl

  no_range : ends_of reads (codes "none" ∷ []) ≡ None
  no_range = one_end (reads (codes "none"))

  range_read : (a b : List ℕ) (x y : P) → reads a ≡ Some x → reads b ≡ Some y → lacking 45 a ≡ true → lacking 45 b ≡ true → range_of reads (a ++ (45 ∷ b)) ≡ Some (record { first = x; last = y })
  range_read a b x y e f la lb =
      ap (ends_of reads) (pieces_joined 45 a (b ∷ []) (la, (lb, tt)))
      ∙ ap (λ (o : Option P). then_last o (b ∷ [])) e ∙ ap (then_end x) f

module _ {P : Type 0} (reads : List ℕ → Option P) (text : P → List ℕ) (folded : List ℕ → List ℕ) (proper : P → Type 0)
    (text-read : (x : P) → proper x → reads (text x) ≡ Some x)
    (read-text : (w : List ℕ) (x : P) → reads w ≡ Some x → proper x × (folded w ≡ text x) × (lacking 44 w ≡ true) × (lacking 45 w ≡ true))
    (blind : (w : List ℕ) → reads (folded w) ≡ reads w) where
  -- a word that is a point's text
  point_word : (w : List ℕ) (x : P) → proper x → folded w ≡ text x → reads w ≡ Some x
  point_word w x p e = sym (blind w) ∙ ap reads e ∙ text-read x p

  abbrev IsRange : List ℕ → Range P → Type 0
  IsRange w r = (proper r.first × proper r.last) × RangeWord text folded w r × (lacking 44 w ≡ true)

  range_inv : (w : List ℕ) (r : Range P) → range_of reads w ≡ Some r → IsRange w r
  range_inv w r h =
      let t = then_inv (read_next reads (pieces_of 45 w)) (λ a. and_then (read_next reads a.1) (λ b. at_end b.1 (record { first = a.0; last = b.0 }))) r h in
      let x : P = t.0.0 in
      let u = then_inv (read_next reads t.0.1) (λ b. at_end b.1 (record { first = x; last = b.0 })) r t.2 in
      let y : P = u.0.0 in
      let s : Range P = record { first = x; last = y } in
      let done : (u.0.1 ≡ []) × (s ≡ r) = end_inv u.0.1 s r u.2 in
      let i = next_inv reads (pieces_of 45 w) t.0 t.1 in
      let j = next_inv reads t.0.1 u.0 u.1 in
      let a : List ℕ = i.0 in
      let b : List ℕ = j.0 in
      let whole : w ≡ a ++ (45 ∷ b) =
      sym (joined_pieces 45 w) ∙ ap (joined 45) (i.1 ∙ ap (λ (l : Words). a ∷ l) (j.1 ∙ ap (λ (l : Words). b ∷ l) done.0)) in
      let p = read-text a x i.2 in
      let q = read-text b y j.2 in
      subst (IsRange w) done.1
      ((p.0, q.0), record { low = a; high = b; whole = whole; from = p.1; to = q.1 }, ap (lacking 44) whole ∙ lacking_parts 44 45 a b refl p.2 q.2)

  range_word : (w : List ℕ) (r : Range P) → proper r.first × proper r.last → RangeWord text folded w r → (range_of reads w ≡ Some r) × (lacking 44 w ≡ true)
  range_word w r h g =
      let e : reads g.low ≡ Some r.first = point_word g.low r.first h.0 g.from in
      let f : reads g.high ≡ Some r.last = point_word g.high r.last h.1 g.to in
      let p = read-text g.low r.first e in
      let q = read-text g.high r.last f in (
        ap (range_of reads) g.whole ∙ range_read reads g.low g.high r.first r.last e f p.3 q.3,
        ap (lacking 44) g.whole ∙ lacking_parts 44 45 g.low g.high refl p.2 q.2,
      )

  -- words that are ranges
  words_inv : (ws : Words) (l : List (Range P)) → all_ranges reads ws ≡ Some l → Fit proper l × RangeWords text folded ws l
  words_inv [] l h = let e : [] ≡ l = cc in subst (λ (k : List (Range P)). Fit proper k × RangeWords text folded [] k) e (tt, tt)
  words_inv (w ∷ ws) l h =
      let t = consed_inv (range_of reads w) (all_ranges reads ws) l h in
      let i = range_inv w t.0 t.2 in
      let j = words_inv ws t.1 t.3 in
      subst (λ (k : List (Range P)). Fit proper k × RangeWords text folded (w ∷ ws) k) t.4 ((i.0, j.0), (i.1, j.1))

  words_read : (ws : Words) (l : List (Range P)) → Fit proper l → RangeWords text folded ws l → (all_ranges reads ws ≡ Some l) × AllByRecursion (λ w. lacking 44 w ≡ true) ws
  words_read [] [] f g = (refl, tt)
  words_read [] (r ∷ rs) f g = absurd g
  words_read (w ∷ ws) [] f g = absurd g
  words_read (w ∷ ws) (r ∷ rs) f g =
      let i = range_word w r f.0 g.0 in
      let j = words_read ws rs f.1 g.1 in
      (ap (λ (o : Option (Range P)). consed o (all_ranges reads ws)) i.0 ∙ ap (consed (Some r)) j.0, (i.1, j.1))

  -- a word that is a list
  abbrev Listed : List ℕ → List (Range P) → Type 0
  Listed w l = Fit proper l × ListWord text folded w l

  ranges_listed : (w : List ℕ) (l : List (Range P)) → all_ranges reads (pieces_of 44 w) ≡ Some l → Listed w l
  ranges_listed w [] h =
      let g : RangeWords text folded (pieces_of 44 w) [] = (words_inv (pieces_of 44 w) [] h).1 in
      absurd (subst (λ (ws : Words). RangeWords text folded ws []) (pieces_first 44 w) g)
  ranges_listed w (r ∷ rs) h =
      let g = words_inv (pieces_of 44 w) (r ∷ rs) h in
      (g.0, (pieces_of 44 w, sym (joined_pieces 44 w), g.1))

  list_inv : (w : List ℕ) (l : List (Range P)) → list_of reads w ≡ Some l → Listed w l
  list_inv w l h = elim (cases_Bool (bytes_eq w (codes "none"))) [
    | inl e ↦
        let g : Some [] ≡ Some l = sym (ap (λ (b : Bool). cond b (Some []) (all_ranges reads (pieces_of 44 w))) e) ∙ h in
        let k : [] ≡ l = cc in
        subst (Listed w) k (tt, (bytes_eq-Decides w (codes "none")).0 e)
    | inr e ↦ ranges_listed w l (sym (ap (λ (b : Bool). cond b (Some []) (all_ranges reads (pieces_of 44 w))) e) ∙ h)
  ]

  -- a word that is `none` is no range
  none_ranges : (w : List ℕ) (l : List (Range P)) → w ≡ codes "none" → all_ranges reads (pieces_of 44 w) ≡ Some l → ⊥
  none_ranges w l e h =
      let n : all_ranges reads (pieces_of 44 w) ≡ None = ap (λ (v : List ℕ). all_ranges reads (pieces_of 44 v)) e ∙ ap (λ (o : Option (Range P)). consed o (Some [])) (no_range reads) in
      none_some l (sym n ∙ h)

  ranges_read : (w : List ℕ) (l : List (Range P)) → all_ranges reads (pieces_of 44 w) ≡ Some l → list_of reads w ≡ Some l
  ranges_read w l h = elim (cases_Bool (bytes_eq w (codes "none"))) [
    | inl e ↦ absurd (none_ranges w l ((bytes_eq-Decides w (codes "none")).0 e) h)
    | inr e ↦ ap (λ (b : Bool). cond b (Some []) (all_ranges reads (pieces_of 44 w))) e ∙ h
  ]

  joined_read : (w : List ℕ) (ws : Words) (r : Range P) (rs : List (Range P)) → w ≡ joined 44 ws → Fit proper (r ∷ rs) → RangeWords text folded ws (r ∷ rs) → list_of reads w ≡ Some (r ∷ rs)
  joined_read w [] r rs e f g = absurd g
  joined_read w (v ∷ vs) r rs e f g =
      let k = words_read (v ∷ vs) (r ∷ rs) f g in
      ranges_read w (r ∷ rs) (ap (λ (s : List ℕ). all_ranges reads (pieces_of 44 s)) e ∙ ap (all_ranges reads) (pieces_joined 44 v vs k.1) ∙ k.0)

  list_read : (w : List ℕ) (l : List (Range P)) → Listed w l → list_of reads w ≡ Some l
  list_read w [] h = ap (list_of reads) h.1
  list_read w (r ∷ rs) h = joined_read w h.1.0 r rs h.1.1 h.0 h.1.2

  pub reads_list : (w : List ℕ) (answer : Option (List (Range P))) → answer ≡ list_of reads w → ReadsList text folded proper w answer
  reads_list w answer e l = (λ h. list_inv w l (sym e ∙ h), λ h. e ∙ list_read w l h)

  -- what is printed is read as the same list
  own_word : (x : P) → proper x → folded (text x) ≡ text x
  own_word x p = (read-text (text x) x (text-read x p)).1

  own_words : (l : List (Range P)) → Fit proper l → RangeWords text folded (map (range_text text) l) l
  own_words [] f = tt
  own_words (r ∷ rs) f =
      (record { low = text r.first; high = text r.last; whole = refl; from = own_word r.first f.0.0; to = own_word r.last f.0.1 }, own_words rs f.1)

  pub prints_back : (l : List (Range P)) → Fit proper l → list_of reads (list_text text l) ≡ Some l
  prints_back [] f = refl
  prints_back (r ∷ rs) f = joined_read (list_text text (r ∷ rs)) (map (range_text text) (r ∷ rs)) r rs refl f (own_words (r ∷ rs) f)
