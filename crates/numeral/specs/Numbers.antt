-- Numbers in decimal. Assumes nothing.
use Rattle.std.specs.Prelude.{◌≡◌, ℕ, ◌+◌, ◌-◌, ◌*◌, ◌≤◌, Bool, true, false, cond, not, ◌&&◌, List, [], ◌∷◌, Some, None, decimal, Option, ◌==◌, nat_le}

-- a number with a further digit, where that is at most `most`
abbrev pub grown : ℕ → Option ℕ → ℕ → Option ℕ
grown most None c = None
grown most (Some n) c = cond (nat_le 48 c && nat_le c 57) (cond (nat_le (n * 10 + (c - 48)) most) (Some (n * 10 + (c - 48))) None) None

-- a number with further digits
abbrev pub number_from : ℕ → Option ℕ → List ℕ → Option ℕ
number_from most o [] = o
number_from most o (c ∷ cs) = number_from most (grown most o c) cs

-- not empty, and no zero in front unless that is all
abbrev pub plain : List ℕ → Bool
plain [] = false
plain (c ∷ []) = true
plain (c ∷ (d ∷ cs)) = not (c == 48)

-- the number that a word writes, where it is at most `most`
abbrev pub number_of : ℕ → List ℕ → Option ℕ
number_of most w = cond (plain w) (number_from most (Some 0) w) None

-- the answer is a number exactly where the word is its text, and it is at most `most`
abbrev pub ReadsNumber : ℕ → List ℕ → Option ℕ → Type 0
ReadsNumber most w answer =
    (n : ℕ) → (answer ≡ Some n → (w ≡ decimal n) × (n ≤ most)) × ((w ≡ decimal n) × (n ≤ most) → answer ≡ Some n)
