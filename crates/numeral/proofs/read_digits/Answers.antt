use Rattle.std.proofs.Common.{◌∙◌}
use Rattle.numeral.proofs.Reading.{digit_none}
use Rattle.numeral.proofs.read_digits.Goals as goal

pub returns-in_err-number : goal.returns-in_err-number
returns-in_err-number c =
    c.from_residual.ensures ∙ digit_none c.args.most c.loop-digit.number c.args.digits.now c.loop-digit.digit-index c.loop-digit-test.true c.in_err-number.ensures.value c.loop-digit.invariant
