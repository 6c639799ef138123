use Rattle.log_lines.proofs.Oracles.{oracle_calls_stand}
use Rattle.log_lines.proofs.CallCalls.known.Goals as goal

pub returns-clause-stands : goal.returns-clause-stands
returns-clause-stands c = oracle_calls_stand
