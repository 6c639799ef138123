use Rattle.std.proofs.Common.{sym}
use Rattle.record.proofs.Fronts.{no_record}
use Rattle.record.proofs.read_record.Goals as goal

pub returns-in-Err : goal.returns-in-Err
returns-in-Err c = sym (no_record _ _ _ c.in_ok-kind.ensures.cases c.in-Err.ensures)
