use Rattle.std.proofs.Common.{refl}
use Rattle.element.proofs.Writes.{one_encoding}
use Rattle.element.proofs.elements_have_one_encoding.Goals as goal

pub returns : goal.returns
returns c = record { shown = refl; theorem = one_encoding }
