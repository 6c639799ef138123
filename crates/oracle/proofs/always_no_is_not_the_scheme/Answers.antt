use Rattle.oracle.proofs.Verdicts.{always_no}
use Rattle.oracle.proofs.always_no_is_not_the_scheme.Goals as goal

pub returns : goal.returns
returns c = always_no
