use Rattle.record.proofs.Written.{leftover_silent}
use Rattle.record.proofs.leftover_says_nothing.Goals as goal

pub returns : goal.returns
returns c = leftover_silent
