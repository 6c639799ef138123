use Rattle.record.proofs.Written.{appended_octets}
use Rattle.record.proofs.appended_octets_keep_records.Goals as goal

pub returns : goal.returns
returns c = appended_octets
