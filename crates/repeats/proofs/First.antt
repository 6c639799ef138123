-- The first string that stood before is one, and there is one answer. Assumes nothing.
use Rattle.std.proofs.Common.{◌≡◌, ℕ, zero, suc, ◌+◌, ◌<◌, Bool, true, false, cond, ◌⊎◌, List, [], ◌∷◌, ◌++◌, length, get_or, Some, None, Decides, Option, sym, refl, ap, ◌∙◌, subst, inl, inr, arith, MatchOption}
use Rattle.std.specs.Str.{bytes_eq}
use Rattle.std.specs.List.{ContainsAt as Has}
use Rattle.std.proofs.lemmas.Slice.Eq.{bytes_eq-Decides}
use Rattle.std.proofs.lemmas.Bool.Decides.{Decides-or, Decides-like, not_from_Decides}
use Rattle.std.proofs.lemmas.Bool.{cases_lt, both_ways}
use Rattle.std.proofs.lemmas.List.{length-append, length_push, get_or_append_left, get_or_at, append_assoc, append-nil}
use Rattle.std.proofs.ByRecursion.{has_push, has_push_cases, has_append_left}
use Rattle.repeats.specs.Repeats.{Repeats, FirstRepeat, AllDifferent, among, repeat_after, first_repeat}

-- the answer is as it is meant to be
abbrev pub Answers : Option ℕ → List (List ℕ) → Type 0
Answers r xs = MatchOption r (AllDifferent xs) (FirstRepeat xs)

-- there is one such answer
pub one_answer : (xs : List (List ℕ)) (r s : Option ℕ) → Answers r xs → Answers s xs → r ≡ s
one_answer xs None None h k = refl
one_answer xs None (Some j) h k = absurd (h j k.repeats)
one_answer xs (Some i) None h k = absurd (k i h.repeats)
one_answer xs (Some i) (Some j) h k =
    let a : i < j → ⊥ = λ l. k.first i l h.repeats in
    let b : j < i → ⊥ = λ l. h.first j l k.repeats in
    let e : i ≡ j = omega arith in ap Some e

-- the strings that were seen are those in front
abbrev Seen : List (List ℕ) → List (List ℕ) → Type 0
Seen front seen = (x : List ℕ) → Decides (among x seen) (Has front x)

seen_more : (front seen : List (List ℕ)) (y : List ℕ) → Seen front seen → Seen (front ++ y ∷ []) (y ∷ seen)
seen_more front seen y h x =
    Decides-like (among x (y ∷ seen))
    (λ (s : (x ≡ y) ⊎ Has front x). elim s as (λ _. Has (front ++ y ∷ []) x) [ inl e ↦ subst (Has (front ++ y ∷ [])) (sym e) (has_push front y) | inr g ↦ has_append_left front (y ∷ []) x g ])
    (λ g. elim (has_push_cases front y x g) [ inl a ↦ inr a | inr e ↦ inl (sym e) ])
    (Decides-or (bytes_eq x y) (among x seen) (bytes_eq-Decides x y) (h x))

-- none repeats in front
abbrev Fresh : List (List ℕ) → ℕ → Type 0
Fresh all n = (k : ℕ) → k < n → Repeats all k → ⊥

repeats_here : (front : List (List ℕ)) (x : List ℕ) (xs : List (List ℕ)) → Has front x → Repeats (front ++ x ∷ xs) (length front)
repeats_here front x xs h = record {
  within = let e = length-append front (x ∷ xs) in omega arith;
  earlier = (h.0, h.1, get_or_append_left front (x ∷ xs) [] h.0 h.1 ∙ h.2 [] ∙ sym (get_or_at front x xs [] (length front) refl));
}

stands_here : (front : List (List ℕ)) (x : List ℕ) (xs : List (List ℕ)) → Repeats (front ++ x ∷ xs) (length front) → Has front x
stands_here front x xs h =
    let j = h.earlier.0 in
    let l : j < length front = h.earlier.1 in
    let e : get_or front j [] ≡ x = sym (get_or_append_left front (x ∷ xs) [] j l) ∙ h.earlier.2 ∙ get_or_at front x xs [] (length front) refl in
    (j, l, λ d. get_d_default_at front j d x l e)
  where
    get_d_default_at : (f : List (List ℕ)) (j : ℕ) (d x : List ℕ) → j < length f → get_or f j [] ≡ x → get_or f j d ≡ x
    get_d_default_at [] j d x l e = absurd (omega arith)
    get_d_default_at (y ∷ f) zero d x l e = e
    get_d_default_at (y ∷ f) (suc j) d x l e = get_d_default_at f j d x (omega arith) e

fresh_more : (front : List (List ℕ)) (x : List ℕ) (xs : List (List ℕ)) → (Has front x → ⊥) → Fresh (front ++ x ∷ xs) (length front) → Fresh (front ++ x ∷ xs) (length front + 1)
fresh_more front x xs new f k l h =
    elim (cases_lt k (length front)) [ inl a ↦ f k a h | inr b ↦ (let e : k ≡ length front = omega arith in new (stands_here front x xs (subst (Repeats (front ++ x ∷ xs)) e h))) ]

repeat_by : (t : Bool) (more : Option ℕ) (front : List (List ℕ)) (x : List ℕ) (xs : List (List ℕ)) → Decides t (Has front x) → Fresh (front ++ x ∷ xs) (length front) → (t ≡ false → Answers more (front ++ x ∷ xs)) → Answers (cond t (Some (length front)) more) (front ++ x ∷ xs)
repeat_by true more front x xs d f m = record { repeats = repeats_here front x xs (d.0 refl); first = f }
repeat_by false more front x xs d f m = m refl

pub answers_after : (front seen xs : List (List ℕ)) → Seen front seen → Fresh (front ++ xs) (length front) → Answers (repeat_after seen (length front) xs) (front ++ xs)
answers_after front seen [] s f = λ i h. f i (let l : i < length (front ++ []) = h.within in let e = ap length (append-nil front) in omega arith) h
answers_after front seen (x ∷ xs) s f =
    repeat_by (among x seen) (repeat_after (x ∷ seen) (length front + 1) xs) front x xs (s x) f
    (λ e.
    let no : Has front x → ⊥ = not_from_Decides (among x seen) (s x) e in
    let a : (front ++ x ∷ []) ++ xs ≡ front ++ x ∷ xs = append_assoc front (x ∷ []) xs in
    let n : length (front ++ x ∷ []) ≡ length front + 1 = length_push front x in
    let g : Fresh ((front ++ x ∷ []) ++ xs) (length (front ++ x ∷ [])) = subst (λ (q : List (List ℕ)). Fresh q (length (front ++ x ∷ []))) (sym a) (subst (Fresh (front ++ x ∷ xs)) (sym n) (fresh_more front x xs no f)) in
    let r = answers_after (front ++ x ∷ []) (x ∷ seen) xs (seen_more front seen x s) g in
    subst (λ (m : ℕ). Answers (repeat_after (x ∷ seen) m xs) (front ++ x ∷ xs)) n
    (subst (Answers (repeat_after (x ∷ seen) (length (front ++ x ∷ [])) xs)) a r))

-- the definition answers as it is meant to
pub first_answers : (xs : List (List ℕ)) → Answers (first_repeat xs) xs
first_answers xs = answers_after [] [] xs (λ x. ((λ e. absurd (both_ways false refl e)), λ h. absurd (let l : h.0 < zero = h.1 in omega arith))) (λ k l h. absurd (omega arith))
