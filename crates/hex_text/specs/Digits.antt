-- Octets and the hexadecimal digits that write them. Assumes nothing.
use Rattle.std.specs.Prelude.{ℕ, ◌+◌, ◌-◌, ◌*◌, ◌/◌, ◌%◌, Bool, true, cond, ◌&&◌, List, [], ◌∷◌, is_some, Some, None, Option, nat_le, nat_lt}

-- the value of a digit: 0 to 9, a to f and A to F
abbrev pub nibble_of : ℕ → Option ℕ
nibble_of c = cond (nat_le 48 c && nat_le c 57) (Some (c - 48))
    (cond (nat_le 97 c && nat_le c 102) (Some (c - 87))
    (cond (nat_le 65 c && nat_le c 70) (Some (c - 55)) None))

-- the octet of the values of its two digits
abbrev pub paired : Option ℕ → Option ℕ → Option ℕ
paired None low = None
paired (Some h) None = None
paired (Some h) (Some l) = Some (h * 16 + l)

-- the octet that two digits write
abbrev pub octet_of : ℕ → ℕ → Option ℕ
octet_of high low = paired (nibble_of high) (nibble_of low)

-- an octet in front of others
abbrev pub before : Option ℕ → Option (List ℕ) → Option (List ℕ)
before None rest = None
before (Some x) None = None
before (Some x) (Some xs) = Some (x ∷ xs)

-- the octets that the digits write, two digits to an octet
abbrev pub unhex : List ℕ → Option (List ℕ)
unhex [] = Some []
unhex (high ∷ []) = None
unhex (high ∷ (low ∷ s)) = before (octet_of high low) (unhex s)

-- whether each character is a digit
abbrev pub all_digits : List ℕ → Bool
all_digits [] = true
all_digits (c ∷ s) = is_some (nibble_of c) && all_digits s

-- the lower-case digit of a value below 16
abbrev pub digit_of : ℕ → ℕ
digit_of n = cond (nat_lt n 10) (n + 48) (n + 87)

-- two lower-case digits for each octet
abbrev pub hex_text : List ℕ → List ℕ
hex_text [] = []
hex_text (x ∷ xs) = digit_of (x / 16) ∷ (digit_of (x % 16) ∷ hex_text xs)
