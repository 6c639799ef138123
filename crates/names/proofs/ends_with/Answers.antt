use Rattle.names.proofs.Bare.{ends-answer}
use Rattle.names.proofs.ends_with.Goals as goal

pub returns : goal.returns
returns c = ends-answer c.args.octets.now c.args.text.now _ c.ends_with.ensures.value
