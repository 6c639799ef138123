use Rattle.std.proofs.Common.{◌≡◌, ◌^◌, ◌<◌, drop}
use Rattle.route_text.specs.Pieces.{digits_from}
use Rattle.route_text.proofs.digits_from.Given as goal

abbrev pub invariant-loop-i : goal.invariant-loop-i
invariant-loop-i l = (digits_from l.value (drop l.i l.s) ≡ digits_from l.start l.s) × (l.value < 2 ^ 44)
