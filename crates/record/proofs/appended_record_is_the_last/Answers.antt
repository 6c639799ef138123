use Rattle.record.proofs.Written.{appended_record}
use Rattle.record.proofs.appended_record_is_the_last.Goals as goal

pub returns : goal.returns
returns c = appended_record
