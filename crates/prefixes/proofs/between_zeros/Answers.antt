use Rattle.prefixes.proofs.Ends.{between_is}
use Rattle.prefixes.proofs.between_zeros.Goals as goal

pub returns : goal.returns
returns c = between_is c.args.front c.args.octets.now c.copy_from_slice.new.self c.requires c.copy_from_slice.ensures.after
