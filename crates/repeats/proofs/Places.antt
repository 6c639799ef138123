-- The place of a spot of a given number, and what is noted. Assumes nothing.
use Rattle.std.proofs.Common.{◌≡◌, ℕ, zero, suc, ◌+◌, ◌-◌, ◌<◌, ◌≤◌, Bool, true, false, cond, eqb, List, [], ◌∷◌, ◌++◌, length, get_or, take, set, Some, Option, sym, refl, ap, ◌∙◌, subst, inl, inr, arith}
use borrow.Rule.Slice.PartMut.{put_mid}
use Rattle.std.specs.List.Sorted.{IsPermutation}
use Rattle.std.specs.List.{ContainsAt as Has, AllByRecursion, find}
use Rattle.std.specs.Option.{option_map}
use Rattle.std.proofs.lemmas.List.Sorted.{length_permutation}
use Rattle.std.proofs.ByRecursion.{all_shuffled, has_shuffled, has_get_or, All-from_get_or}
use Rattle.std.proofs.lemmas.Slice.{take-put_mid, drop-put_mid}
use Rattle.std.proofs.lemmas.List.{get_or-map, take_more_set, map_push, length-take-le, get_or_append_left, get_or_push, length_push}
use Rattle.std.proofs.lemmas.Bool.{eqb-true, eqb-false, cases_lt}
use Rattle.repeats.specs.declared.Spot.{Spot}
use Rattle.repeats.specs.Repeats.{Numbered, Notes, Stirs, key_of, keys_of, places_of, place_with, place_at, first_repeat}

-- ---- the look for a number

pub place_found : (i : ℕ) (xs : List Spot) → option_map (λ (s : Spot). s.place) (find (λ (s : Spot). eqb s.index i) xs) ≡ place_with i xs
place_found i [] = refl
place_found i (s ∷ ss) = by (eqb s.index i) (place_found i ss)
  where
    by : (t : Bool) → option_map (λ (s : Spot). s.place) (find (λ (s : Spot). eqb s.index i) ss) ≡ place_with i ss → option_map (λ (s : Spot). s.place) (cond t (Some s) (find (λ (s : Spot). eqb s.index i) ss)) ≡ cond t (Some s.place) (place_with i ss)
    by true h = refl
    by false h = h

-- ---- which place it is

place_by : (t : Bool) (s : Spot) (ss : List Spot) (i p : ℕ) → eqb s.index i ≡ t → (s.index ≡ i → s.place ≡ p) → (t ≡ false → place_with i ss ≡ Some p) → cond t (Some s.place) (place_with i ss) ≡ Some p
place_by true s ss i p e h k = ap Some (h (eqb-true _ _ e))
place_by false s ss i p e h k = k refl

place_is : (i p : ℕ) (ys : List Spot) → AllByRecursion (λ (s : Spot). s.index ≡ i → s.place ≡ p) ys → (x : Spot) → x.index ≡ i → Has ys x → place_with i ys ≡ Some p
place_is i p [] a x e h = absurd (let l : h.0 < zero = h.1 in omega arith)
place_is i p (s ∷ ss) a x e (zero, l, at) =
    place_by (eqb s.index i) s ss i p refl a.0 (λ f. absurd (eqb-false _ _ f (ap (λ (t : Spot). t.index) (at s) ∙ e)))
place_is i p (s ∷ ss) a x e (suc k, l, at) =
    place_by (eqb s.index i) s ss i p refl a.0 (λ f. place_is i p ss a.1 x e (k, omega arith, at))

-- in another order a number has its place still
pub place_shuffled : (xs ys : List Spot) (i : ℕ) → Numbered xs → IsPermutation xs ys → i < length xs → place_with i ys ≡ Some (get_or (places_of xs) i 0)
place_shuffled [] ys i n s l = absurd (omega arith)
place_shuffled (z ∷ zs) ys i n s l =
    let xs = z ∷ zs in
    let p = (get_or xs i z).place in
    let own : AllByRecursion (λ (t : Spot). t.index ≡ i → t.place ≡ p) xs = All-from_get_or (λ (t : Spot). t.index ≡ i → t.place ≡ p) xs z
    (λ k lk e. ap (λ (m : ℕ). (get_or xs m z).place) (sym (n k z lk) ∙ e)) in
    place_is i p ys (all_shuffled (λ (t : Spot). t.index ≡ i → t.place ≡ p) xs ys s own) (get_or xs i z) (n i z l) (has_shuffled xs ys (get_or xs i z) s (has_get_or xs i z l))
    ∙ ap Some (sym (get_or-map (λ (t : Spot). t.place) xs i z 0 l))

-- ---- one more note

numbered_push : (xs : List Spot) (s : Spot) → s.index ≡ length xs → Numbered xs → Numbered (xs ++ s ∷ [])
numbered_push xs s e n k d l =
    let m = length_push xs s in
    elim (cases_lt k (length xs)) [
      | inl a ↦ ap (λ (t : Spot). t.index) (get_or_append_left xs (s ∷ []) d k a) ∙ n k d a
      | inr b ↦ (let q : length xs ≡ k = omega arith in ap (λ (t : Spot). t.index) (get_or_push xs s d k q) ∙ e ∙ q)
    ]

pub noted_more : (xs : List Spot) (n : ℕ) (s : Spot) (ks : List (List ℕ)) (ps : List ℕ) → n < length xs → s.index ≡ n → Notes ks ps xs n → Notes (ks ++ key_of s ∷ []) (ps ++ s.place ∷ []) (set xs n s) (n + 1)
noted_more xs n s ks ps l e h =
    let t : take (n + 1) (set xs n s) ≡ take n xs ++ s ∷ [] = take_more_set xs n s l in
    let m : length (take n xs) ≡ n = length-take-le n xs (omega arith) in
    record {
      keys_are = ap keys_of t ∙ map_push key_of (take n xs) s ∙ ap (λ (q : List (List ℕ)). q ++ key_of s ∷ []) h.keys_are;
      places_are = ap places_of t ∙ map_push (λ (q : Spot). q.place) (take n xs) s ∙ ap (λ (q : List ℕ). q ++ s.place ∷ []) h.places_are;
      numbered = subst Numbered (sym t) (numbered_push (take n xs) s (e ∙ sym m) h.numbered);
    }

-- ---- the first so many spots

pub front_is : (n : ℕ) (xs : List Spot) → take n xs ≡ take (n - 0) xs
front_is n xs = ap (λ (m : ℕ). take m xs) (let e : n ≡ n - 0 = omega arith in e)

pub stirred : (n : ℕ) (xs ys : List Spot) → n ≤ length xs → IsPermutation (take (n - 0) xs) ys → Stirs n xs (put_mid 0 (n - 0) xs ys)
stirred n xs ys l s =
    let z : n - 0 ≡ n = omega arith in
    let s' : IsPermutation (take n xs) ys = subst (λ (m : ℕ). IsPermutation (take m xs) ys) z s in
    let a : length ys ≡ n = length_permutation (take n xs) ys s' ∙ length-take-le n xs l in
    record {
      front = subst (IsPermutation (take n xs)) (sym (take-put_mid 0 (n - 0) xs ys n (omega arith) (omega arith))) s';
      rest = drop-put_mid 0 (n - 0) xs ys n (omega arith) (omega arith) (omega arith);
    }

pub noted_place : (n : ℕ) (xs : List Spot) (r : Option ℕ) → r ≡ place_at (places_of (take (n - 0) xs)) (first_repeat (keys_of (take (n - 0) xs))) → (ks : List (List ℕ)) (ps : List ℕ) → Notes ks ps xs n → r ≡ place_at ps (first_repeat ks)
noted_place n xs r e ks ps h =
    e
    ∙ ap (λ (q : List ℕ). place_at q (first_repeat (keys_of (take (n - 0) xs)))) (ap places_of (sym (front_is n xs)) ∙ h.places_are)
    ∙ ap (λ (q : List (List ℕ)). place_at ps (first_repeat q)) (ap keys_of (sym (front_is n xs)) ∙ h.keys_are)
