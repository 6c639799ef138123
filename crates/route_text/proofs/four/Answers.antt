use Rattle.route_text.proofs.Steps.{four_is}
use Rattle.route_text.proofs.four.Goals as goal

pub returns : goal.returns
returns c = four_is c.args.s.now _ _ _ _ c.grow-value.ensures.value c.grow-value-2.ensures.value c.grow-value-3.ensures.value c.grow.ensures.value
