use Rattle.std.proofs.Common.{◌≡◌, drop, Some}
use Rattle.numeral.specs.Numbers.{number_from}
use Rattle.numeral.proofs.read_digits.Given as goal

abbrev pub invariant-loop-digit : goal.invariant-loop-digit
invariant-loop-digit l = number_from l.most (Some l.number) (drop l.digit-index l.digits) ≡ number_from l.most (Some 0) l.digits
