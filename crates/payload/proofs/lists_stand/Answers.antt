use Rattle.std.proofs.Common.{refl}
use Rattle.payload.proofs.Laws.{ordered, inserted_rises, one_list}
use Rattle.payload.proofs.lists_stand.Goals as goal

pub returns : goal.returns
returns c = record { shown = refl; order = ordered; inserted = inserted_rises; one = one_list }
