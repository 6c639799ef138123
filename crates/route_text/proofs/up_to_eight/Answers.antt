use Rattle.std.proofs.Common.{arith}
use Rattle.route_text.specs.Pieces.{run_of}
use Rattle.route_text.proofs.Widths.{groups_none, groups_more}
use Rattle.route_text.proofs.up_to_eight.Goals as goal

pub loop-i-init : goal.loop-i-init
loop-i-init c = (groups_none c.args.s.now, omega arith, omega arith)

pub loop-i-preserved : goal.loop-i-preserved
loop-i-preserved c = (
  groups_more c.loop-i._i c.args.s.now (c.loop-i.run.0, c.loop-i.run.1.0, c.loop-i.run.1.1.0.now) (run_of c.next_group-run.result) c.loop-i.invariant.0 c.next_group-run.ensures.value,
  omega (arith, c.next_group-run.ensures.bound, c.loop-i.invariant.1),
  c.next_group-run.result.fits,
)
