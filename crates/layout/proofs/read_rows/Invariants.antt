use Rattle.std.proofs.Common.{◌≡◌, length}
use Rattle.element.specs.Reading.{octets_of}
use Rattle.layout.specs.Rows.{rows_of}
use Rattle.layout.proofs.read_rows.Given as goal

abbrev pub invariant-loop-rest : goal.invariant-loop-rest
invariant-loop-rest g l =
    rows_of g.R.Row.step (g.R.Row.view l.fn.start) (octets_of l.content) ≡ rows_of g.R.Row.step (g.R.Row.view l.known) (octets_of l.rest)

abbrev pub decreases-loop-rest : goal.decreases-loop-rest
decreases-loop-rest g l = length l.rest.octets.now
