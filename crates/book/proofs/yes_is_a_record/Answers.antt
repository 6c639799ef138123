use Rattle.book.proofs.Kept.{yes_is_a_record}
use Rattle.book.proofs.yes_is_a_record.Goals as goal

pub returns : goal.returns
returns c = yes_is_a_record
