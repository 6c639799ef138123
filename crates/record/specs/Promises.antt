-- What is promised of the records of a book. Assumes nothing.
use Rattle.std.specs.Prelude.{◌≡◌, ℕ, ◌<◌, List, [], ◌∷◌, ◌++◌, None}
use Rattle.std.specs.List.{AllByRecursion}
use Rattle.record.specs.Format.{Entry, record_of, records, leftover, Whole}
use Rattle.record.specs.Writing.{record_octets, book_of, Writable}

-- octets appended to a book leave its records, in their places, and may only add others after them
abbrev pub AppendedOctetsKeepRecords : Type 0
AppendedOctetsKeepRecords = (book more : List ℕ) → records (book ++ more) ≡ records book ++ records (leftover book ++ more)

-- a record appended to a book that is whole is its last record, and the book stays whole
abbrev pub AppendedRecordIsTheLast : Type 0
AppendedRecordIsTheLast =
    (book : List ℕ) (r : Entry) → Writable r → Whole book
    → (records (book ++ record_octets r) ≡ records book ++ r ∷ []) × Whole (book ++ record_octets r)

-- a book of octets is its records, written one after another, and then octets at whose front no whole record stands
abbrev pub BookIsItsRecords : Type 0
BookIsItsRecords =
    (book : List ℕ) → AllByRecursion (λ x. x < 0x100) book
    → (book ≡ book_of (records book) ++ leftover book) × (record_of (leftover book) ≡ None)

-- records that can be written are read again, whatever follows them
abbrev pub WrittenRecordsAreRead : Type 0
WrittenRecordsAreRead =
    (rs : List Entry) (more : List ℕ) → AllByRecursion Writable rs → records (book_of rs ++ more) ≡ rs ++ records more

-- without what stands after its whole records, a book is whole and has the same records
abbrev pub LeftoverSaysNothing : Type 0
LeftoverSaysNothing =
    (book : List ℕ) → AllByRecursion (λ x. x < 0x100) book
    → (records (book_of (records book)) ≡ records book) × Whole (book_of (records book))
