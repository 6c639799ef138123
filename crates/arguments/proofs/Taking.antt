-- The room of an area, where a word is left. Assumes nothing.
use Rattle.std.proofs.Common.{◌≡◌, ℕ, List, [], ◌∷◌, length, refl}
use Rattle.numeral.specs.Numbers.{number_of}
use Rattle.arguments.specs.Arguments.{roomed, area_of}

pub area_some : (w : List ℕ) (rest : List (List ℕ)) → (length w ≡ 0 → ⊥) → area_of (w ∷ rest) ≡ roomed (number_of 18446744073709551615 w) rest
area_some [] rest h = absurd (h refl)
area_some (c ∷ w) rest h = refl
