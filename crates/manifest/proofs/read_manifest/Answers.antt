use Rattle.std.proofs.Common.{rules}
use Rattle.manifest.proofs.Lending.{seen_at, past_at, read_at, stays_at}
use Rattle.manifest.proofs.read_manifest.Goals as goal

pub returns : goal.returns
returns c =
    let us = c.read_whole.new.lent.table.now in
    let name = c.read_whole.ensures.memory.0 in
    record {
      value = seen_at c.read_whole.result us _ _ (search (rules, name)) c.read_whole.ensures.value;
      others = past_at c.read_whole.result c.args.table.now us _ (search (rules, name)) c.read_whole.ensures.others;
      placed = read_at c.read_whole.result us _ (search (rules, name)) c.read_whole.ensures.placed;
      kept = stays_at c.args.table.now us _ (search (rules, name)) c.read_whole.ensures.kept;
    }
