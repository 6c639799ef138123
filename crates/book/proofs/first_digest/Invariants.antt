use Rattle.std.proofs.Common.{◌≡◌}
use Rattle.record.specs.Views.{records_left}
use Rattle.book.specs.Meaning.{first_digest, book_digest}
use Rattle.book.proofs.first_digest.Given as goal

abbrev pub invariant-loop-found : goal.invariant-loop-found
invariant-loop-found l = first_digest l.octets (records_left l.found-iterator) ≡ book_digest l.book l.octets
