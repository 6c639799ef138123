-- What a book holds after a record was to be written. Assumes nothing.
use Rattle.std.specs.Prelude.{◌≡◌, ℕ, List, [], ◌∷◌, ◌++◌, Ok, Err, Result}
use Rattle.record.specs.Format.{Entry, records, Whole}
use Rattle.record.specs.Writing.{record_octets, Writable}
use Rattle.book_writer.specs.declared.WriteError.{WriteError}
use Rattle.book_writer.specs.declared.WriteError.TheVariants.{TooLong, Memory}

-- all octets were appended, or where memory ran out only some
abbrev pub Appended : {E : Type 0} → Result (Unit {0}) E → List ℕ → List ℕ → List ℕ → Type 0
Appended (Ok u) before after octets = after ≡ before ++ octets
Appended (Err e) before after octets = (some : List ℕ) × (after ≡ before ++ some)

-- the record was appended, and is the last record of a book that was whole; or the book is as it was
abbrev pub Written : Result (Unit {0}) WriteError → List ℕ → List ℕ → Entry → Type 0
Written (Ok u) before after r =
    (after ≡ before ++ record_octets r) × (Whole before → (records after ≡ records before ++ r ∷ []) × Whole after)
Written (Err e) before after r = after ≡ before

-- a record is refused as too long exactly where it cannot be written
abbrev pub Refused : Result (Unit {0}) WriteError → Entry → Type 0
Refused (Ok u) r = Writable r
Refused (Err TooLong) r = Writable r → ⊥
Refused (Err Memory) r = Writable r
