-- The octets of a record. Assumes nothing.
use Rattle.std.specs.Prelude.{◌≡◌, ℕ, ◌/◌, ◌%◌, ◌^◌, ◌<◌, List, [], ◌∷◌, ◌++◌, length}
use Rattle.std.specs.List.{flat_map}
use Rattle.record.specs.Format.{Entry, Known, Signed}

-- a length in three octets, high octet first
abbrev pub length_octets : ℕ → List ℕ
length_octets n = n / 0x10000 ∷ (n / 0x100 % 0x100 ∷ (n % 0x100 ∷ []))

abbrev pub field_octets : List ℕ → List ℕ
field_octets f = length_octets (length f) ++ f

abbrev pub record_octets : Entry → List ℕ
record_octets (Known octets digest) = 0x44 ∷ (field_octets octets ++ field_octets digest)
record_octets (Signed key message signature) = 0x59 ∷ (field_octets key ++ (field_octets message ++ field_octets signature))

-- a book with these records and nothing else
abbrev pub book_of : List Entry → List ℕ
book_of rs = flat_map record_octets rs

-- a record that can be written: each length fits three octets, and a digest has 32 octets
abbrev pub Writable : Entry → Type 0
Writable (Known octets digest) = (length octets < 2 ^ 24) × (length digest ≡ 32)
Writable (Signed key message signature) = (length key < 2 ^ 24) × (length message < 2 ^ 24) × (length signature < 2 ^ 24)
