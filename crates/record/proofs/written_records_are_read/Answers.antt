use Rattle.record.proofs.Written.{written_read}
use Rattle.record.proofs.written_records_are_read.Goals as goal

pub returns : goal.returns
returns c = written_read
