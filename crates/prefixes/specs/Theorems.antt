-- What reading and writing are to each other. Assumes nothing.
use Rattle.std.specs.Prelude.{◌≡◌, ℕ, ◌+◌, ◌-◌, ◌%◌, ◌^◌, ◌<◌, ◌≤◌, true, false, List, length, Some, ◌≢◌, slice_index}
use Rattle.family.specs.declared.Family.{Family}
use Rattle.family.specs.Widths.{width}
use Rattle.prefixes.specs.Reading.{BitString, bit_count, Readable, low_of, high_of, last_bit}
use Rattle.prefixes.specs.Ranges.{OnePrefix}
use Rattle.prefixes.specs.Writing.{prefix_count, low_count, high_count, octets_for, unused_for, bits_of}

-- each is an octet
abbrev pub Octets : List ℕ → Type 0
Octets o = (i : ℕ) → i < length o → slice_index o i < 256

-- What is written for n bits are as many octets as n bits fill.
abbrev pub HasOctets : Type 0
HasOctets = (v : Family) (a n : ℕ) → n ≤ width v → (length (bits_of (width v) a n) ≡ octets_for n) × Octets (bits_of (width v) a n)

-- The first n bits of the address a, as they are written: a bit string of n bits, which is read as a and as a with ones
-- for the bits after these.
pub record ReadBack (w a n : ℕ) : Type 0 where
  pub bit_string : BitString (bits_of w a n) (unused_for n)
  pub count : bit_count (bits_of w a n) (unused_for n) ≡ n
  pub low : low_of w (bits_of w a n) ≡ a
  pub high : high_of w (bits_of w a n) (unused_for n) ≡ a + 2 ^ (w - n) - 1

-- An address whose bits after the first n are zeros, written with n bits, is read back.
abbrev pub ReadsBack : Type 0
ReadsBack = (v : Family) (a n : ℕ) → a < 2 ^ width v → n ≤ width v → a % 2 ^ (width v - n) ≡ 0 → ReadBack (width v) a n

-- A range that is one prefix, as it is written: a bit string that is read as its two ends.
pub record PrefixBack (w a b : ℕ) : Type 0 where
  pub prefix_readable : Readable w (bits_of w a (prefix_count w a b)) (unused_for (prefix_count w a b))
  pub low : low_of w (bits_of w a (prefix_count w a b)) ≡ a
  pub high : high_of w (bits_of w a (prefix_count w a b)) (unused_for (prefix_count w a b)) ≡ b

abbrev pub PrefixReadsBack : Type 0
PrefixReadsBack = (v : Family) (a b : ℕ) → a < 2 ^ width v → OnePrefix (width v) a b → PrefixBack (width v) a b

-- An address as the low and as the high end of a range: each is written as a bit string that is read back.
pub record RangeBack (w a : ℕ) : Type 0 where
  pub low_readable : Readable w (bits_of w a (low_count w a)) (unused_for (low_count w a))
  pub low : low_of w (bits_of w a (low_count w a)) ≡ a
  pub high_readable : Readable w (bits_of w a (high_count w a)) (unused_for (high_count w a))
  pub high : high_of w (bits_of w a (high_count w a)) (unused_for (high_count w a)) ≡ a

abbrev pub RangeReadsBack : Type 0
RangeReadsBack = (v : Family) (a : ℕ) → a < 2 ^ width v → RangeBack (width v) a

-- A bit string is the one that is written for its low end and its count of bits.
abbrev pub OneEncoding : Type 0
OneEncoding =
    (v : Family) (o : List ℕ) (u : ℕ) → Octets o → Readable (width v) o u
    → (bits_of (width v) (low_of (width v) o) (bit_count o u) ≡ o) × (unused_for (bit_count o u) ≡ u)

-- No two bit strings stand for the same range.
abbrev pub OneBitString : Type 0
OneBitString =
    (v : Family) (o p : List ℕ) (u t : ℕ) → Octets o → Octets p → Readable (width v) o u → Readable (width v) p t
    → low_of (width v) o ≡ low_of (width v) p → high_of (width v) o u ≡ high_of (width v) p t → (o ≡ p) × (u ≡ t)

-- What a bit string stands for is one prefix.
abbrev pub IsOnePrefix : Type 0
IsOnePrefix = (v : Family) (o : List ℕ) (u : ℕ) → Readable (width v) o u → OnePrefix (width v) (low_of (width v) o) (high_of (width v) o u)

-- A bit string that does not end in a zero has the fewest bits that its low end can be written with, and one that does not
-- end in a one the fewest for its high end (RFC 3779, 2.2.3.9); and no other bit strings have. One without bits ends in
-- neither.
pub record Shortest (w : ℕ) (o : List ℕ) (u : ℕ) : Type 0 where
  pub low : (last_bit o u ≢ Some false) → bit_count o u ≡ low_count w (low_of w o)
  pub low_only : bit_count o u ≡ low_count w (low_of w o) → last_bit o u ≢ Some false
  pub high : (last_bit o u ≢ Some true) → bit_count o u ≡ high_count w (high_of w o u)
  pub high_only : bit_count o u ≡ high_count w (high_of w o u) → last_bit o u ≢ Some true

abbrev pub FewestBits : Type 0
FewestBits = (v : Family) (o : List ℕ) (u : ℕ) → Readable (width v) o u → Shortest (width v) o u
