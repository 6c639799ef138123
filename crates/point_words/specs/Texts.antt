-- The text of a point of each kind, and what a word is read as. Assumes nothing.
use Rattle.std.specs.Prelude.{ℕ, ◌+◌, ◌*◌, ◌/◌, ◌%◌, cond, List, [], ◌∷◌, ◌++◌, length, Some, None, decimal, Option, ◌==◌, slice_index}
use Rattle.hex_text.specs.Digits.{octet_of, hex_text}
use Rattle.numeral.specs.Numbers.{number_of}
use Rattle.pieces.specs.Marks.{pieces_of, joined, and_then, read_next, at_end}
use Rattle.points.specs.declared.V4.{V4}
use Rattle.points.specs.declared.V6.{V6}
use Rattle.points.specs.declared.Asn.{Asn}

-- a word as it stands
abbrev pub itself : List ℕ → List ℕ
itself w = w

-- the four octets of an IPv4 address, each from 0 to 255
abbrev pub v4_parts : ℕ → List (List ℕ)
v4_parts n = decimal (n / 16777216) ∷ (decimal (n / 65536 % 256) ∷ (decimal (n / 256 % 256) ∷ (decimal (n % 256) ∷ [])))

-- four octets in decimal, with "." between
abbrev pub v4_text : V4 → List ℕ
v4_text x = joined 46 (v4_parts x.word)

-- the number that the next part writes, and then the others
abbrev pub with_next : {B : Type 0} → (List ℕ → Option ℕ) → List (List ℕ) → (ℕ → List (List ℕ) → Option B) → Option B
with_next reads ws k = and_then (read_next reads ws) (λ p. k p.0 p.1)

-- the numbers that the next four parts write
abbrev pub with_four : {B : Type 0} → (List ℕ → Option ℕ) → List (List ℕ) → (ℕ → ℕ → ℕ → ℕ → List (List ℕ) → Option B) → Option B
with_four reads ws k = with_next reads ws (λ a es. with_next reads es (λ b bs. with_next reads bs (λ c cs. with_next reads cs (λ d ds. k a b c d ds))))

-- an IPv4 address from its parts
abbrev pub v4_from : List (List ℕ) → Option V4
v4_from ws = with_four (number_of 255) ws (λ a b c d rest. at_end rest (record { word = a * 16777216 + b * 65536 + c * 256 + d }))

abbrev pub v4_of : List ℕ → Option V4
v4_of w = v4_from (pieces_of 46 w)

-- an AS number in decimal
abbrev pub asn_text : Asn → List ℕ
asn_text x = decimal x.number

abbrev pub asn_of : List ℕ → Option Asn
asn_of w = and_then (number_of 4294967295 w) (λ n. Some (record { number = n }))

-- a group of 16 bits: four hexadecimal digits
unfoldable pub group_text : ℕ → List ℕ
group_text g = hex_text (g / 256 ∷ (g % 256 ∷ []))

abbrev pub group_of : List ℕ → Option ℕ
group_of w =
    cond (length w == 4)
    (and_then (octet_of (slice_index w 0) (slice_index w 1)) (λ h. and_then (octet_of (slice_index w 2) (slice_index w 3)) (λ l. Some (h * 256 + l)))) None

-- four groups
abbrev pub quad_parts : ℕ → List (List ℕ)
quad_parts n = group_text (n / 281474976710656) ∷ (group_text (n / 4294967296 % 65536) ∷ (group_text (n / 65536 % 65536) ∷ (group_text (n % 65536) ∷ [])))

abbrev pub quad_text : ℕ → List ℕ
quad_text n = joined 58 (quad_parts n)

abbrev pub quad_from : List (List ℕ) → Option (ℕ × List (List ℕ))
quad_from ws = with_four group_of ws (λ a b c d rest. Some (a * 281474976710656 + b * 4294967296 + c * 65536 + d, rest))

-- eight groups with ":" between, none left out
abbrev pub v6_text : V6 → List ℕ
v6_text x = joined 58 (quad_parts x.high ++ quad_parts x.low)

abbrev pub v6_from : List (List ℕ) → Option V6
v6_from ws = and_then (quad_from ws) (λ a. and_then (quad_from a.1) (λ b. at_end b.1 (record { high = a.0; low = b.0 })))

abbrev pub v6_of : List ℕ → Option V6
v6_of w = v6_from (pieces_of 58 w)
