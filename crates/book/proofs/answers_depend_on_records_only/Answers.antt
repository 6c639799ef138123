use Rattle.book.proofs.Kept.{depend_on_records}
use Rattle.book.proofs.answers_depend_on_records_only.Goals as goal

pub returns : goal.returns
returns c = depend_on_records
