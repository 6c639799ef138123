use Rattle.names.proofs.Bare.{ending_told}
use Rattle.names.proofs.ending_of.Goals as goal

pub returns : goal.returns
returns c = record { value = c.find_ending.ensures; relation = ending_told c.args.name.now _ c.find_ending.ensures }
