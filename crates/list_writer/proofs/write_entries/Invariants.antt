use Rattle.list_writer.proofs.Joining.{Laying}
use Rattle.list_writer.proofs.write_entries.Given as goal

abbrev pub invariant-loop-range : goal.invariant-loop-range
invariant-loop-range g l = Laying g.P.WrittenResource.text l.list l.initial.area l.at l.range-index l.next l.area
