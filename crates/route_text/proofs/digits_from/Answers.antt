use Rattle.std.proofs.Common.{sym}
use Rattle.route_text.proofs.Steps.{digits_stop, digits_more, digits_all}
use Rattle.route_text.proofs.digits_from.Goals as goal

pub returns-then-not-is_digit : goal.returns-then-not-is_digit
returns-then-not-is_digit c =
    record { value = digits_stop c.loop-i.value c.args.start c.args.s.now c.loop-i.i c.loop-i-test.true (sym c.if-not-is_digit.ensures) c.loop-i.invariant.0; bound = c.loop-i.invariant.1 }

pub loop-i-preserved : goal.loop-i-preserved
loop-i-preserved c =
    (digits_more c.loop-i.value c.with_digit-value.result c.args.start c.args.s.now c.loop-i.i c.loop-i-test.true (sym c.if-not-is_digit.ensures) c.with_digit-value.ensures.value c.loop-i.invariant.0, c.with_digit-value.ensures.bound)

pub returns : goal.returns
returns c =
    record { value = digits_all c.loop-i.value c.args.start c.args.s.now c.loop-i.i c.loop-i-test.false c.loop-i.invariant.0; bound = c.loop-i.invariant.1 }
