-- What a verdict book answers, by its records. Assumes nothing.
use Rattle.std.specs.Prelude.{ℕ, Bool, false, cond, ◌&&◌, List, [], ◌∷◌, Some, None, Option}
use Rattle.std.specs.List.{list_any}
use Rattle.std.specs.Option.{option_or}
use Rattle.std.specs.Str.{bytes_eq}
use Rattle.oracle.specs.Meaning.{Digests, Verdicts}
use Rattle.record.specs.Format.{Entry, Known, Signed, records}

-- what one record says of the digest of some octets
abbrev pub digest_said : List ℕ → Entry → Option (List ℕ)
digest_said s (Known octets digest) = cond (bytes_eq octets s) (Some digest) None
digest_said s (Signed key message signature) = None

-- whether one record says yes: its three fields are the key, the message and the signature
abbrev pub yes_said : List ℕ → List ℕ → List ℕ → Entry → Bool
yes_said k m g (Known octets digest) = false
yes_said k m g (Signed key message signature) = bytes_eq signature g && (bytes_eq message m && bytes_eq key k)

-- the first record that says something of a digest gives it
abbrev pub first_digest : List ℕ → List Entry → Option (List ℕ)
first_digest s [] = None
first_digest s (r ∷ rs) = option_or (digest_said s r) (first_digest s rs)

-- some record says yes
abbrev pub some_verdict : List ℕ → List ℕ → List ℕ → List Entry → Bool
some_verdict k m g rs = list_any (yes_said k m g) rs

-- the meaning of a book: by its whole records
abbrev pub book_digest : List ℕ → Digests
book_digest book s = first_digest s (records book)

abbrev pub book_verdict : List ℕ → Verdicts
book_verdict book k m g = some_verdict k m g (records book)
