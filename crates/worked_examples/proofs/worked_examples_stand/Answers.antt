use Rattle.std.proofs.Common.{refl}
use Rattle.worked_examples.proofs.Examples.{worked}
use Rattle.worked_examples.proofs.worked_examples_stand.Goals as goal

pub returns : goal.returns
returns c = record { shown = refl; worked = worked }
