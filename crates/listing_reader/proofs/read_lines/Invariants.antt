use Rattle.listing_reader.proofs.Steps.{Halfway}
use Rattle.listing_reader.proofs.read_lines.Given as goal

abbrev pub invariant-loop-i : goal.invariant-loop-i
invariant-loop-i l = Halfway l.count l.i l.initial.list l.list l.rest l.s
