-- One digit after another, each a step of `decimalAfter`; fourteen digits fit.
use Rattle.std.proofs.Common.{sym, ◌∙◌, arith}
use Rattle.moment.proofs.Numerals.{stops, next_digit, ends, below_all}
use Rattle.moment.proofs.decimal.Goals as goal

pub returns-then-not-is_ascii_digit : goal.returns-then-not-is_ascii_digit
returns-then-not-is_ascii_digit c =
    let l = c.loop-digit in
    record {
      value = sym (stops c.args.digits.now l.digit-index l.number c.loop-digit-test.true c.if-not-is_ascii_digit.ensures.value) ∙ l.invariant.0;
      bound = tt;
    }

pub overflow_mul-number : goal.overflow_mul-number
overflow_mul-number c = let l = c.loop-digit in omega (arith, below_all l.number l.digit-index 14 l.invariant.1 (omega arith))

pub overflow_add-number : goal.overflow_add-number
overflow_add-number c =
    let l = c.loop-digit in
    omega (arith, below_all l.number l.digit-index 14 l.invariant.1 (omega arith), c.if-not-is_ascii_digit.ensures.cases)

pub loop-digit-preserved : goal.loop-digit-preserved
loop-digit-preserved c =
    let l = c.loop-digit in
    let d = c.if-not-is_ascii_digit.ensures in
    next_digit c.args.digits.now l.digit-index l.number c.from.result _ c.loop-digit-test.true d.value c.from.ensures l.invariant.0 l.invariant.1

pub returns : goal.returns
returns c =
    let l = c.loop-digit in
    record {
      value = sym (ends c.args.digits.now l.digit-index l.number c.loop-digit-test.false) ∙ l.invariant.0;
      bound = below_all l.number l.digit-index _ l.invariant.1 l.auto.digit-index-end;
    }
