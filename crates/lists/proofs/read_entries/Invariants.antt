use Rattle.std.proofs.Common.{length}
use Rattle.element.specs.Reading.{octets_of}
use Rattle.lists.proofs.Going.{Going}
use Rattle.lists.proofs.read_entries.Given as goal

abbrev pub invariant-loop-rest : goal.invariant-loop-rest
invariant-loop-rest g l =
    Going g.P.Point.rank g.P.Resource.entry (octets_of l.content) l.initial.table l.table l.count l.before (octets_of l.rest)

abbrev pub decreases-loop-rest : goal.decreases-loop-rest
decreases-loop-rest g l = length l.rest.octets.now
