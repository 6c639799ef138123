use Rattle.std.proofs.Common.{◌≡◌, ℕ, ◌<◌, List, length, Some, Option, MatchOption, sym, ap, ◌∙◌, subst, arith}
use Rattle.std.specs.List.Sorted.{IsPermutation}
use Rattle.std.proofs.lemmas.List.{length-map}
use Rattle.repeats.specs.declared.Spot.{Spot}
use Rattle.repeats.specs.Repeats.{Numbered, AllDifferent, FirstRepeat, key_of, keys_of, first_repeat, places_of, place_at, place_with}
use Rattle.repeats.proofs.Places.{place_shuffled}
use Rattle.repeats.proofs.place_of_repeat.Goals as goal

-- the place of the number that was found, whatever the form in which the code takes it
found_place :
    (xs ys : List Spot) (i : ℕ) (o r : Option ℕ) → Numbered xs → IsPermutation xs ys → MatchOption o (AllDifferent (keys_of xs)) (FirstRepeat (keys_of xs)) → o ≡ first_repeat (keys_of xs)
    → r ≡ place_with i ys → o ≡ Some i → r ≡ place_at (places_of xs) (first_repeat (keys_of xs))
found_place xs ys i o r n s plain value placed is =
    let P : Option ℕ → Type 0 = λ q. MatchOption q (AllDifferent (keys_of xs)) (FirstRepeat (keys_of xs)) in
    let first : FirstRepeat (keys_of xs) i = subst P is plain in
    let w = first.repeats.within in
    let m = length-map xs key_of in
    let l : i < length xs = omega arith in
    placed ∙ place_shuffled xs ys i n s l ∙ ap (place_at (places_of xs)) (sym is ∙ value)

pub returns : goal.returns
returns c = record {
  value = found_place _ _ _ c.first_repeat.result c.place_with.result c.requires c.first_repeat.ensures.same c.first_repeat.ensures.plain c.first_repeat.ensures.value c.place_with.ensures (cc);
  same = c.first_repeat.ensures.same;
}
