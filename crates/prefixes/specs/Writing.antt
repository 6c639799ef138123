-- Addresses as bit strings: RFC 3779, 2.2.3.8 for prefixes and 2.2.3.9 for ranges. Assumes nothing.
use Rattle.std.specs.Prelude.{◌≡◌, ℕ, zero, suc, ◌+◌, ◌-◌, ◌/◌, ◌%◌, ◌^◌, ◌≤◌, List, [], ◌∷◌, ◌++◌, take}
use Rattle.prefixes.specs.Ranges.{zero_tail, one_tail, shared_tail}

-- A range that is one prefix is written without the bits at the end that are zeros in its first address and ones in its last.
abbrev pub prefix_count : ℕ → ℕ → ℕ → ℕ
prefix_count w a b = w - shared_tail w a b

-- The low end of a range is written without its zeros at the end.
abbrev pub low_count : ℕ → ℕ → ℕ
low_count w a = w - zero_tail w a

-- The high end is written without its ones at the end.
abbrev pub high_count : ℕ → ℕ → ℕ
high_count w b = w - one_tail w b

-- n is the fewest bits of the address a after which it has only zeros.
pub record BeforeZeros (w a n : ℕ) : Type 0 where
  pub most : n ≤ w
  pub ends : a % 2 ^ (w - n) ≡ 0
  pub fewest : (m : ℕ) → m ≤ w → a % 2 ^ (w - m) ≡ 0 → n ≤ m

-- n is the fewest bits of the address b after which it has only ones.
pub record BeforeOnes (w b n : ℕ) : Type 0 where
  pub most : n ≤ w
  pub ends : b % 2 ^ (w - n) + 1 ≡ 2 ^ (w - n)
  pub fewest : (m : ℕ) → m ≤ w → b % 2 ^ (w - m) + 1 ≡ 2 ^ (w - m) → n ≤ m

-- How many octets n bits fill, the last one perhaps in part.
abbrev pub octets_for : ℕ → ℕ
octets_for n = (n + 7) / 8

-- How many bits of the last of them are unused.
abbrev pub unused_for : ℕ → ℕ
unused_for n = (8 - n % 8) % 8

-- A number as k octets, the highest first.
unfoldable pub octets_of : ℕ → ℕ → List ℕ
octets_of zero a = []
octets_of (suc k) a = octets_of k (a / 256) ++ (a % 256 ∷ [])

-- The octets of the bit string of the first n bits of the address a: bits past the n-th are zeros, and octets after the
-- last that these bits fill are left out.
unfoldable pub bits_of : ℕ → ℕ → ℕ → List ℕ
bits_of w a n = take (octets_for n) (octets_of (w / 8) (a - a % 2 ^ (w - n)))
