use Rattle.verdict.proofs.Cuts.{covered}
use Rattle.verdict.proofs.covers.Goals as goal

pub returns-then-length-route : goal.returns-then-length-route
returns-then-length-route c = covered c.args.p c.args.route _ _ c.eq-then-length-route.result c.if-length-route.true.1 c.cut.ensures c.cut-then-length-route.ensures c.eq-then-length-route.ensures
