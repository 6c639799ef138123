use Rattle.std.proofs.Common.{refl}
use Rattle.repeats.proofs.Looking.{looking_after}
use Rattle.repeats.proofs.looking_after_is_looking_while.Goals as goal

pub returns : goal.returns
returns g c = record { shown = refl; same = looking_after g.row.State.Denot g.row.Item.Denot g.row.Fault.Denot }
