-- How a range is written as an entry of a list of resources (RFC 3779 2.2.3.7 to 2.2.3.9 and 3.2.3.5 to 3.2.3.8).
-- Assumes nothing.
use Rattle.std.specs.Prelude.{ℕ, cond, List, ◌∷◌, ◌++◌, ◌==◌, nat_lt}
use Rattle.element.specs.Lengths.{encoded}
use Rattle.prefixes.specs.Ranges.{one_prefix}
use Rattle.prefixes.specs.Writing.{prefix_count, low_count, high_count, unused_for, octets_of, bits_of}
use Rattle.points.specs.declared.V4.{V4}
use Rattle.points.specs.declared.V6.{V6}
use Rattle.points.specs.declared.Asn.{Asn}
use Rattle.points.specs.Ranks.{v4_rank, v6_rank, asn_rank}
use Rattle.ranges.specs.declared.Range.{Range}

-- the BIT STRING of the first n bits of the address a of w bits: the count of unused bits, and then the fewest octets
unfoldable pub bit_text : ℕ → ℕ → ℕ → List ℕ
bit_text w a n = encoded 3 (unused_for n ∷ bits_of w a n)

-- the two halves of a range of addresses: the first without its zeros at the end, the last without its ones at the end
unfoldable pub halves_text : ℕ → ℕ → ℕ → List ℕ
halves_text w a z = bit_text w a (low_count w a) ++ bit_text w z (high_count w z)

-- the addresses from a to z, of w bits each: one BIT STRING where they are one prefix, and otherwise a SEQUENCE of two
unfoldable pub address_text : ℕ → ℕ → ℕ → List ℕ
address_text w a z = cond (one_prefix w a z) (bit_text w a (prefix_count w a z)) (encoded 48 (halves_text w a z))

-- how many octets an INTEGER of up to 32 bits has that is not below zero: the first bit is zero
abbrev pub number_size : ℕ → ℕ
number_size n = cond (nat_lt n 128) 1 (cond (nat_lt n 32768) 2 (cond (nat_lt n 8388608) 3 (cond (nat_lt n 2147483648) 4 5)))

-- a number as an INTEGER
unfoldable pub integer_text : ℕ → List ℕ
integer_text n = encoded 2 (octets_of (number_size n) n)

-- the numbers from a to z: one INTEGER where they are one number, and otherwise a SEQUENCE of two
unfoldable pub number_text : ℕ → ℕ → List ℕ
number_text a z = cond (a == z) (integer_text a) (encoded 48 (integer_text a ++ integer_text z))

-- the entry of a range of each kind
abbrev pub v4_text : Range V4 → List ℕ
v4_text r = address_text 32 (v4_rank r.first) (v4_rank r.last)

abbrev pub v6_text : Range V6 → List ℕ
v6_text r = address_text 128 (v6_rank r.first) (v6_rank r.last)

abbrev pub asn_text : Range Asn → List ℕ
asn_text r = number_text (asn_rank r.first) (asn_rank r.last)
