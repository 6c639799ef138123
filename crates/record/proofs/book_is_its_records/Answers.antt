use Rattle.record.proofs.Written.{book_is}
use Rattle.record.proofs.book_is_its_records.Goals as goal

pub returns : goal.returns
returns c = book_is
