-- The format of a verdict book: records of a kind octet and fields, one after another. Assumes nothing.
use Rattle.std.specs.Prelude.{◌≡◌, ℕ, zero, suc, ◌+◌, ◌*◌, cond, List, [], ◌∷◌, length, take, drop, Some, None, Option, ◌==◌, nat_le, slice_index}

-- a record: octets and their digest, or a key, a message and a signature that is good
pub data Entry : Type 0 where
  Known : List ℕ → List ℕ → Entry
  Signed : List ℕ → List ℕ → List ℕ → Entry

-- what is read at the front of some octets, and the octets after it; none where nothing whole stands there
abbrev pub Front : Type 0 → Type 0
Front A = Option (A × List ℕ)

-- where one was read, read the next
abbrev pub then_read : {A B : Type 0} → Option A → (A → Option B) → Option B
then_read (Some a) next = next a
then_read None next = None

-- the length that three octets write, high octet first
abbrev pub length_at : List ℕ → ℕ
length_at s = slice_index s 0 * 0x10000 + slice_index s 1 * 0x100 + slice_index s 2

-- a field: a length in three octets, and that many octets
abbrev pub field_of : List ℕ → Front (List ℕ)
field_of s = cond (nat_le (3 + length_at s) (length s)) (Some (take (length_at s) (drop 3 s), drop (3 + length_at s) s)) None

-- a digest has 32 octets
abbrev pub digest_only : List ℕ → Option (List ℕ)
digest_only d = cond (length d == 32) (Some d) None

-- the fields of kind 44: octets and their digest
abbrev pub digest_record : List ℕ → Front Entry
digest_record s =
    then_read (field_of s) (λ o. then_read (field_of o.1) (λ d. then_read (digest_only d.0) (λ x. Some (Known o.0 x, d.1))))

-- the fields of kind 59: key, message and signature
abbrev pub verdict_record : List ℕ → Front Entry
verdict_record s =
    then_read (field_of s) (λ k. then_read (field_of k.1) (λ m. then_read (field_of m.1) (λ g. Some (Signed k.0 m.0 g.0, g.1))))

-- the fields that go with a kind
abbrev pub record_by : ℕ → List ℕ → Front Entry
record_by kind s = cond (kind == 0x44) (digest_record s) (cond (kind == 0x59) (verdict_record s) None)

-- a record: a kind octet and its fields
abbrev pub record_of : List ℕ → Front Entry
record_of [] = None
record_of (kind ∷ s) = record_by kind s

-- a record that was read, and then the records of the rest
abbrev pub listed : Front Entry → (List ℕ → List Entry) → List Entry
listed (Some r) more = r.0 ∷ more r.1
listed None more = []

-- the octets that are left: those after the record that was read, or all of them
abbrev pub remaining : List ℕ → Front Entry → (List ℕ → List ℕ) → List ℕ
remaining s (Some r) more = more r.1
remaining s None more = s

-- the first records of some octets, n of them at most
abbrev pub records_of : ℕ → List ℕ → List Entry
records_of zero s = []
records_of (suc n) s = listed (record_of s) (records_of n)

abbrev pub rest_of : ℕ → List ℕ → List ℕ
rest_of zero s = s
rest_of (suc n) s = remaining s (record_of s) (rest_of n)

-- the records of a book, up to the first that is not whole and of its kind's shape: they are fewer than its octets
unfoldable pub records : List ℕ → List Entry
records book = records_of (length book) book

-- what stands after them
unfoldable pub leftover : List ℕ → List ℕ
leftover book = rest_of (length book) book

-- each octet of the book belongs to a whole record
abbrev pub Whole : List ℕ → Type 0
Whole book = leftover book ≡ []
