use Rattle.std.proofs.Common.{arith}
use Rattle.entry_writer.proofs.Laying.{laid_mid}
use Rattle.entry_writer.proofs.put.Goals as goal

pub returns-clause-after : goal.returns-clause-after
returns-clause-after c = laid_mid c.args.at _ c.args.octets.now _ c.args.area.now c.copy_from_slice.ensures.after (omega arith)
