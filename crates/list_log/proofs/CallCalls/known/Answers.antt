use Rattle.list_log.proofs.Lists.{list_calls_stand}
use Rattle.list_log.proofs.CallCalls.known.Goals as goal

pub returns-clause-stands : goal.returns-clause-stands
returns-clause-stands c = list_calls_stand
