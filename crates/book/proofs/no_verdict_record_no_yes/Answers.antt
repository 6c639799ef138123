use Rattle.book.proofs.Kept.{no_verdict_no_yes}
use Rattle.book.proofs.no_verdict_record_no_yes.Goals as goal

pub returns : goal.returns
returns c = no_verdict_no_yes
