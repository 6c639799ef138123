-- The steps of the loops over the words of a list. Assumes nothing.
use Rattle.std.proofs.Common.{◌≡◌, ℕ, ◌+◌, ◌<◌, ◌≤◌, Bool, true, false, cond, List, [], ◌∷◌, ◌++◌, length, get_or, take, drop, is_some, Some, None, codes, Option, sym, refl, ap, ◌∙◌, subst, append_assoc, arith}
use Rattle.std.specs.List.{AllByRecursion}
use Rattle.std.specs.Str.{bytes_eq}
use Rattle.std.proofs.lemmas.List.{append-nil, drop_more, drop_all, take_more, take_all}
use Rattle.std.proofs.ByRecursion.{All-push}
use Rattle.pieces.specs.Marks.{take_piece, pieces_of}
use Rattle.ranges.specs.declared.Range.{Range}
use Rattle.ranges.specs.Sets.{Fit}
use Rattle.list_text.specs.Lists.{consed, range_of, all_ranges, list_of, range_text, tail_text}

abbrev Words : Type 0
Words = List (List ℕ)

-- what is read so far in front of what is still to come
abbrev pub prefixed : {A : Type 0} → List A → Option (List A) → Option (List A)
prefixed xs None = None
prefixed xs (Some ys) = Some (xs ++ ys)

pub taken_inv : (ws : Words) (w : List ℕ) (rest : Words) → Some (w, rest) ≡ take_piece ws → ws ≡ w ∷ rest
taken_inv [] w rest e = let z : ◌≡◌ {A = ℕ} 0 1 = cc in absurd (omega arith)
taken_inv (v ∷ vs) w rest e = let q : (w, rest) ≡ (v, vs) = cc in sym (ap (λ (p : List ℕ × Words). p.0 ∷ p.1) q)

pub taken_none : (ws : Words) → None ≡ take_piece ws → ws ≡ []
taken_none [] e = refl
taken_none (v ∷ vs) e = let z : ◌≡◌ {A = ℕ} 0 1 = cc in absurd (omega arith)

pub less : (ws : Words) (w : List ℕ) (rest : Words) → Some (w, rest) ≡ take_piece ws → length rest < length ws
less ws w rest e = let n : length ws ≡ length (w ∷ rest) = ap length (taken_inv ws w rest e) in omega arith

prefixed_none : {A : Type 0} (o : Option (List A)) → prefixed [] o ≡ o
prefixed_none None = refl
prefixed_none (Some xs) = refl

pub prefixed_empty : {A : Type 0} (xs : List A) (o : Option (List A)) → xs ≡ [] → prefixed xs o ≡ o
prefixed_empty {A} xs o e = ap (λ (l : List A). prefixed l o) e ∙ prefixed_none o

prefixed_push : {A : Type 0} (xs : List A) (x : A) (o : Option (List A)) → prefixed (xs ++ (x ∷ [])) o ≡ prefixed xs (consed (Some x) o)
prefixed_push xs x None = refl
prefixed_push xs x (Some ys) = ap Some (append_assoc xs (x ∷ []) ys)

consed_some : {A : Type 0} (x : A) (o : Option (List A)) → is_some (consed (Some x) o) ≡ is_some o
consed_some x None = refl
consed_some x (Some xs) = refl

module _ {P : Type 0} (reads : List ℕ → Option P) where
  -- the next word is a range, or is none
  all_more : (ws : Words) (w : List ℕ) (rest : Words) (r : Option (Range P)) → Some (w, rest) ≡ take_piece ws → r ≡ range_of reads w → all_ranges reads ws ≡ consed r (all_ranges reads rest)
  all_more ws w rest r e h = ap (all_ranges reads) (taken_inv ws w rest e) ∙ ap (λ (o : Option (Range P)). consed o (all_ranges reads rest)) (sym h)

  pub are_no : (ws : Words) (w : List ℕ) (rest : Words) (t : Bool) → Some (w, rest) ≡ take_piece ws → None ≡ range_of reads w → is_some (all_ranges reads ws) ≡ t → false ≡ t
  are_no ws w rest t e h inv = sym (ap (λ (o : Option (List (Range P))). is_some o) (all_more ws w rest None e h)) ∙ inv

  pub are_more : (ws : Words) (w : List ℕ) (rest : Words) (r : Range P) (t : Bool) → Some (w, rest) ≡ take_piece ws → Some r ≡ range_of reads w → is_some (all_ranges reads ws) ≡ t → is_some (all_ranges reads rest) ≡ t
  are_more ws w rest r t e h inv =
      sym (consed_some r (all_ranges reads rest)) ∙ sym (ap (λ (o : Option (List (Range P))). is_some o) (all_more ws w rest (Some r) e h)) ∙ inv

  pub are_all : (ws : Words) (t : Bool) → None ≡ take_piece ws → is_some (all_ranges reads ws) ≡ t → true ≡ t
  are_all ws t e inv = sym (ap (λ (l : Words). is_some (all_ranges reads l)) (taken_none ws e)) ∙ inv

  pub list_no : (xs : List (Range P)) (ws : Words) (w : List ℕ) (rest : Words) (o : Option (List (Range P))) → Some (w, rest) ≡ take_piece ws → None ≡ range_of reads w → prefixed xs (all_ranges reads ws) ≡ o → None ≡ o
  list_no xs ws w rest o e h inv = sym (ap (prefixed xs) (all_more ws w rest None e h)) ∙ inv

  pub list_more : (xs ys : List (Range P)) (ws : Words) (w : List ℕ) (rest : Words) (r : Range P) (o : Option (List (Range P))) → ys ≡ xs ++ (r ∷ []) → Some (w, rest) ≡ take_piece ws → Some r ≡ range_of reads w → prefixed xs (all_ranges reads ws) ≡ o → prefixed ys (all_ranges reads rest) ≡ o
  list_more xs ys ws w rest r o p e h inv =
      ap (λ (l : List (Range P)). prefixed l (all_ranges reads rest)) p ∙ prefixed_push xs r (all_ranges reads rest)
      ∙ sym (ap (prefixed xs) (all_more ws w rest (Some r) e h)) ∙ inv

  pub list_all : (xs : List (Range P)) (ws : Words) (o : Option (List (Range P))) → None ≡ take_piece ws → prefixed xs (all_ranges reads ws) ≡ o → Some xs ≡ o
  list_all xs ws o e inv = sym (ap Some (append-nil xs)) ∙ sym (ap (λ (l : Words). prefixed xs (all_ranges reads l)) (taken_none ws e)) ∙ inv

  -- the two ways of a word
  pub none_is : (w : List ℕ) (xs : List (Range P)) → xs ≡ [] → true ≡ bytes_eq w (codes "none") → Some xs ≡ list_of reads w
  none_is w xs e h = ap Some e ∙ ap (λ (b : Bool). cond b (Some []) (all_ranges reads (pieces_of 44 w))) h

  pub ranges_are : (w : List ℕ) (ws : Words) (o : Option (List (Range P))) → ws ≡ pieces_of 44 w → false ≡ bytes_eq w (codes "none") → o ≡ all_ranges reads ws → o ≡ list_of reads w
  ranges_are w ws o e h r = r ∙ ap (all_ranges reads) e ∙ ap (λ (b : Bool). cond b (Some []) (all_ranges reads (pieces_of 44 w))) h

-- the steps of the loop that prints further ranges
module _ {P : Type 0} (text : P → List ℕ) where
  pub tail_more : (was now all : List ℕ) (rs : List (Range P)) (i : ℕ) (d : Range P) → i < length rs → d ≡ get_or rs i d → now ≡ was ++ (44 ∷ range_text text d)
      → was ++ tail_text text (drop i rs) ≡ all → now ++ tail_text text (drop (i + 1) rs) ≡ all
  tail_more was now all rs i d l e p inv =
      let step : tail_text text (drop i rs) ≡ 44 ∷ (range_text text d ++ tail_text text (drop (i + 1) rs)) =
      ap (tail_text text) (drop_more rs i d l) ∙ ap (λ (r : Range P). 44 ∷ (range_text text r ++ tail_text text (drop (i + 1) rs))) (sym e) in
      ap (λ (s : List ℕ). s ++ tail_text text (drop (i + 1) rs)) p ∙ append_assoc was (44 ∷ range_text text d) (tail_text text (drop (i + 1) rs))
      ∙ ap (λ (s : List ℕ). was ++ s) (sym step) ∙ inv

  pub tail_all : (was all : List ℕ) (rs : List (Range P)) (i : ℕ) → length rs ≤ i → was ++ tail_text text (drop i rs) ≡ all → was ≡ all
  tail_all was all rs i l inv = sym (append-nil was) ∙ sym (ap (λ (s : List (Range P)). was ++ tail_text text s) (drop_all i rs l)) ∙ inv

module _ {P : Type 0} (proper : P → Type 0) where
  pub fit_more : (rs : List (Range P)) (i : ℕ) (d : Range P) → i < length rs → d ≡ get_or rs i d → proper d.first × proper d.last → Fit proper (take i rs) → Fit proper (take (i + 1) rs)
  fit_more rs i d l e h f =
      let good : Range P → Type 0 = λ r. proper r.first × proper r.last in
      subst (λ (ys : List (Range P)). AllByRecursion good ys) (sym (take_more rs i d l ∙ ap (λ (r : Range P). take i rs ++ (r ∷ [])) (sym e))) (All-push good (take i rs) d f h)

  pub fit_all : (rs : List (Range P)) (i : ℕ) → length rs ≤ i → Fit proper (take i rs) → Fit proper rs
  fit_all rs i l f = subst (λ (ys : List (Range P)). Fit proper ys) (take_all i rs l) f
