-- What is promised of a verdict book's answers. Assumes nothing.
use Rattle.std.specs.Prelude.{◌≡◌, ℕ, true, List, ◌∷◌, ◌++◌, Some, None, Decides, ◌≢◌}
use Rattle.std.specs.List.{ContainsAt as Has, AllByRecursion}
use Rattle.oracle.specs.Meaning.{Verdicts, AlwaysNo, SameVerdicts}
use Rattle.record.specs.Format.{Entry, Known, Signed, records}
use Rattle.book.specs.Meaning.{book_digest, book_verdict}

-- a book says yes exactly where an equal record stands among its records: equal in each of the three fields
abbrev pub YesIsARecord : Type 0
YesIsARecord =
    (book key message signature : List ℕ)
    → Decides (book_verdict book key message signature) (Has (records book) (Signed key message signature))

-- the record gives no digest of these octets
abbrev pub SilentOn : List ℕ → Entry → Type 0
SilentOn s r = (d : List ℕ) → r ≢ Known s d

-- among the records stands this one of these octets, and no other of them before it
pub record FirstOf (rs : List Entry) (s d : List ℕ) : Type 0 where
  pub before : List Entry
  pub after : List Entry
  pub stands : rs ≡ before ++ Known s d ∷ after
  pub none_before : AllByRecursion (SilentOn s) before

-- a known digest is that of the first record with these octets
abbrev pub DigestIsTheFirst : Type 0
DigestIsTheFirst =
    (book s d : List ℕ)
    → (book_digest book s ≡ Some d → FirstOf (records book) s d) × (FirstOf (records book) s d → book_digest book s ≡ Some d)

-- a digest is unknown exactly where no record has these octets
abbrev pub UnknownIsNoRecord : Type 0
UnknownIsNoRecord =
    (book s : List ℕ)
    → (book_digest book s ≡ None → AllByRecursion (SilentOn s) (records book)) × (AllByRecursion (SilentOn s) (records book) → book_digest book s ≡ None)

-- the record is not of kind 59
abbrev pub NoVerdict : Entry → Type 0
NoVerdict (Known octets digest) = Unit {0}
NoVerdict (Signed key message signature) = ⊥

-- a book with no whole record of kind 59 says yes to nothing
abbrev pub NoVerdictRecordNoYes : Type 0
NoVerdictRecordNoYes = (book : List ℕ) → AllByRecursion NoVerdict (records book) → AlwaysNo (book_verdict book)

-- whoever always says no does not answer by a book with a whole record of kind 59
abbrev pub AlwaysNoIsNoBookWithAVerdict : Type 0
AlwaysNoIsNoBookWithAVerdict =
    (v : Verdicts) (book : List ℕ) → AlwaysNo v → SameVerdicts v (book_verdict book) → AllByRecursion NoVerdict (records book)

-- books with the same whole records answer every question alike
abbrev pub AnswersDependOnRecordsOnly : Type 0
AnswersDependOnRecordsOnly =
    (book other : List ℕ) → records book ≡ records other
    → ((s : List ℕ) → book_digest book s ≡ book_digest other s) × SameVerdicts (book_verdict book) (book_verdict other)

-- whatever is appended to a book, a known digest stays that digest and a yes stays a yes
abbrev pub AppendedOctetsKeepAnswers : Type 0
AppendedOctetsKeepAnswers =
    (book more : List ℕ)
    → ((s d : List ℕ) → book_digest book s ≡ Some d → book_digest (book ++ more) s ≡ Some d)
    × ((key message signature : List ℕ) → book_verdict book key message signature ≡ true → book_verdict (book ++ more) key message signature ≡ true)
