use Rattle.std.proofs.Common.{◌≡◌, length, vec_items}
use Rattle.pieces.specs.Views.{left}
use Rattle.list_text.specs.Lists.{all_ranges}
use Rattle.list_text.proofs.Steps.{prefixed}
use Rattle.list_text.proofs.read_ranges.Given as goal

abbrev pub invariant-loop-word : goal.invariant-loop-word
invariant-loop-word g l = prefixed (vec_items l.list) (all_ranges g.P.PointText.reads (left l.words)) ≡ all_ranges g.P.PointText.reads (left l.initial.words)

abbrev pub decreases-loop-word : goal.decreases-loop-word
decreases-loop-word g l = length (left l.words)
