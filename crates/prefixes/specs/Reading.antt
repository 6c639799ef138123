-- Bit strings, and the addresses that they stand for at the two ends of a range: RFC 3779, 2.2.3.8 for prefixes and 2.2.3.9
-- for ranges. An address is a number below 2 ^ w, w its count of bits. Assumes nothing.
use Rattle.std.specs.Prelude.{◌≡◌, ℕ, ◌+◌, ◌-◌, ◌*◌, ◌/◌, ◌%◌, ◌^◌, ◌<◌, ◌≤◌, Bool, cond, ◌&&◌, ◌||◌, List, ◌++◌, length, replicate, Some, None, Decides, Option, ◌==◌, nat_le, nat_lt, slice_index}
use Rattle.std.specs.Int.Digits.{number_from_digits}
use Rattle.content.specs.Forms.{bits_formed}

-- The last octet, and 0 where there is none.
abbrev pub last_octet : List ℕ → ℕ
last_octet o = slice_index o (length o - 1)

-- A bit string is octets o with a count u of unused bits, 0 to 7, at the low end of the last octet. These are zero, and
-- without octets there are none.
pub record BitString (o : List ℕ) (u : ℕ) : Type 0 where
  pub few : u ≤ 7
  pub none : length o ≡ 0 → u ≡ 0
  pub zeros : last_octet o % 2 ^ u ≡ 0

-- How many bits a bit string has.
abbrev pub bit_count : List ℕ → ℕ → ℕ
bit_count o u = 8 * length o - u

-- The bits of a bit string as a number, its first bit the highest.
abbrev pub bits_number : List ℕ → ℕ → ℕ
bits_number o u = number_from_digits 256 o / 2 ^ u

-- A bit string of no more bits than an address has.
abbrev pub Readable : ℕ → List ℕ → ℕ → Type 0
Readable w o u = BitString o u × (bit_count o u ≤ w)

-- `Readable` as a test; `bits_formed` is `BitString` as one.
abbrev pub readable : ℕ → List ℕ → ℕ → Bool
readable w o u = bits_formed o u && nat_le (bit_count o u) w

-- The bits, and then zeros up to the width.
unfoldable pub low_of : ℕ → List ℕ → ℕ
low_of w o = number_from_digits 256 (o ++ replicate (w / 8 - length o) 0)

-- The bits, and then ones up to the width.
abbrev pub high_of : ℕ → List ℕ → ℕ → ℕ
high_of w o u = low_of w o + 2 ^ (w - bit_count o u) - 1

-- What the readers answer: none exactly where there is no bit string, or one that is longer than an address.
abbrev pub low_end : ℕ → List ℕ → ℕ → Option ℕ
low_end w o u = cond (readable w o u) (Some (low_of w o)) None

abbrev pub high_end : ℕ → List ℕ → ℕ → Option ℕ
high_end w o u = cond (readable w o u) (Some (high_of w o u)) None

-- The low end of a range (RFC 3779, 2.2.3.8, 2.2.3.9): an address that begins with the bits, and has only zeros after them.
pub record LowEnd (w : ℕ) (o : List ℕ) (u a : ℕ) : Type 0 where
  pub below : a < 2 ^ w
  pub begins : a / 2 ^ (w - bit_count o u) ≡ bits_number o u
  pub ends : a % 2 ^ (w - bit_count o u) ≡ 0

-- The high end: an address that begins with the bits, and has only ones after them.
pub record HighEnd (w : ℕ) (o : List ℕ) (u a : ℕ) : Type 0 where
  pub below : a < 2 ^ w
  pub begins : a / 2 ^ (w - bit_count o u) ≡ bits_number o u
  pub ends : a % 2 ^ (w - bit_count o u) + 1 ≡ 2 ^ (w - bit_count o u)

-- The i-th bit of octets, from the highest bit of the first octet on.
abbrev pub bit_at : List ℕ → ℕ → ℕ
bit_at o i = slice_index o (i / 8) / 2 ^ (7 - i % 8) % 2

-- Whether the last bit of a bit string is one, and none where it has no bit.
abbrev pub last_bit : List ℕ → ℕ → Option Bool
last_bit o u = cond (length o == 0 || nat_lt 7 u) None (Some (last_octet o / 2 ^ u % 2 == 1))

-- The same of its bits by place.
abbrev pub LastBit : List ℕ → ℕ → Option Bool → Type 0
LastBit o u None = u ≤ 7 → length o ≡ 0
LastBit o u (Some b) = Decides b (bit_at o (bit_count o u - 1) ≡ 1)
