use Rattle.listing_reader.proofs.Orders.{added_is}
use Rattle.listing_reader.proofs.add.Goals as goal

pub returns : goal.returns
returns c = added_is c.args.p c.args.list.now c.insert.result c.insert.new.self c.insert.ensures c.requires.last c.requires.space
