use Rattle.std.proofs.Common.{◌≡◌, drop}
use Rattle.repeats.specs.Repeats.{least_after, least_next}
use Rattle.repeats.proofs.least_next.Given as goal

abbrev pub invariant-loop-spot : goal.invariant-loop-spot
invariant-loop-spot l = least_after l.best l.before (drop l.spot-index l.others) ≡ least_next l.spots
