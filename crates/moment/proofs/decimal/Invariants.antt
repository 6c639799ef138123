use Rattle.std.proofs.Common.{◌≡◌, ◌^◌, ◌<◌, drop}
use Rattle.moment.specs.Times.{decimal_after}
use Rattle.moment.proofs.decimal.Given as goal

-- what is left gives the answer, and the number has no more digits than were read
abbrev pub invariant-loop-digit : goal.invariant-loop-digit
invariant-loop-digit l = (decimal_after l.number (drop l.digit-index l.digits) ≡ decimal_after 0 l.digits) × (l.number < 10 ^ l.digit-index)
