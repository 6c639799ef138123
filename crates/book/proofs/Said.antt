-- What one record says, in a walk over the records. Assumes nothing.
use Rattle.std.proofs.Common.{◌≡◌, ℕ, List, Some, None, Option, sym, ap, ◌∙◌}
use Rattle.std.specs.Option.{option_or}
use Rattle.record.specs.Format.{Entry, record_of}
use Rattle.record.proofs.Steps.{records_some}
use Rattle.book.specs.Meaning.{digest_said, first_digest, book_digest}

-- one step of the walk: past a record that says nothing of the digest
pub digest_next : (s book : List ℕ) (q : Entry × List ℕ) → Some q ≡ record_of book → digest_said s q.0 ≡ None → book_digest book s ≡ book_digest q.1 s
digest_next s book q e no' = ap (first_digest s) (records_some book q (sym e)) ∙ ap (λ (o : Option (List ℕ)). option_or o (book_digest q.1 s)) no'
