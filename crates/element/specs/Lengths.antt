-- How an element's length is written, and which octets an element is (X.690 8.1, 10.1). Assumes nothing.
use Rattle.std.specs.Prelude.{ℕ, ◌/◌, ◌%◌, cond, List, [], ◌∷◌, ◌++◌, length, nat_lt}

-- the most octets that a content may have
abbrev pub longest : ℕ
longest = 65535

-- the octets of a length: one under 128, 81 and one under 256, else 82 and two
abbrev pub length_octets : ℕ → List ℕ
length_octets n = cond (nat_lt n 128) (n ∷ []) (cond (nat_lt n 256) (129 ∷ (n ∷ [])) (130 ∷ (n / 256 ∷ (n % 256 ∷ []))))

-- a tag and the length of a content of n octets
abbrev pub header : ℕ → ℕ → List ℕ
header tag n = tag ∷ length_octets n

-- the octets of the element with this tag and content
abbrev pub encoded : ℕ → List ℕ → List ℕ
encoded tag content = header tag (length content) ++ content
