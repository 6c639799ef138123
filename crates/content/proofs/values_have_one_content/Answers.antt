use Rattle.std.proofs.Common.{refl}
use Rattle.content.proofs.Valued.{values_one_to_one}
use Rattle.content.proofs.values_have_one_content.Goals as goal

pub returns : goal.returns
returns c = record { shown = refl; theorem = values_one_to_one }
