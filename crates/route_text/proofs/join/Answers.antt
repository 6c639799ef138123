use Rattle.std.proofs.Common.{refl, arith}
use Rattle.route_text.specs.Pieces.{run_of}
use Rattle.route_text.proofs.Widths.{join_shift, join_fits, join_is, join_zero}
use Rattle.route_text.proofs.join.Goals as goal

pub overflow_add-result : goal.overflow_add-result
overflow_add-result c =
    let h = c.args.head in
    let t = c.args.tail in
    omega (arith, join_shift h.value h.count h.fits h.few, join_fits h.value h.count t.value t.count h.fits t.fits c.if-head-tail-gt7.false)

pub returns-then-head-eq0 : goal.returns-then-head-eq0
returns-then-head-eq0 c = join_zero (run_of c.args.head) (run_of c.args.tail) c.args.head.fits c.if-head-tail-gt7.false c.if-head-eq0.true

pub returns : goal.returns
returns c = join_is (run_of c.args.head) (run_of c.args.tail) _ c.args.head.fits c.if-head-tail-gt7.false refl
