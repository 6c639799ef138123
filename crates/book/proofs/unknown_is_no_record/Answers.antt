use Rattle.book.proofs.Kept.{unknown_is_no_record}
use Rattle.book.proofs.unknown_is_no_record.Goals as goal

pub returns : goal.returns
returns c = unknown_is_no_record
