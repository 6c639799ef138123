use Rattle.payload.specs.Lists.{held}
use Rattle.listing_reader.proofs.Orders.{placed_after}
use Rattle.listing_reader.proofs.comes_after.Goals as goal

pub returns : goal.returns
returns c = placed_after (held c.args.list.now) c.args.p c.position.result c.len.result c.position.ensures c.len.ensures
