use Rattle.listing.proofs.Lists.{Counted}
use Rattle.listing.proofs.measure.Given as goal

abbrev pub invariant-loop-p : goal.invariant-loop-p
invariant-loop-p l = Counted l.payloads l.room l.left l.p-index
