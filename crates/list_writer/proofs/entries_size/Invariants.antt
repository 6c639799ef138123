use Rattle.list_writer.proofs.Joining.{Counting}
use Rattle.list_writer.proofs.entries_size.Given as goal

abbrev pub invariant-loop-range : goal.invariant-loop-range
invariant-loop-range g l = Counting g.P.WrittenResource.text l.list l.range-index l.size
