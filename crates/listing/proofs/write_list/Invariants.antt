use Rattle.listing.proofs.Lists.{Printed}
use Rattle.listing.proofs.write_list.Given as goal

abbrev pub invariant-loop-p : goal.invariant-loop-p
invariant-loop-p l = Printed l.payloads l.initial.area l.initial.at l.area l.at l.p-index
