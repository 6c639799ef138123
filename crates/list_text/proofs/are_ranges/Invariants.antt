use Rattle.std.proofs.Common.{◌≡◌, length, is_some}
use Rattle.pieces.specs.Views.{left}
use Rattle.list_text.specs.Lists.{all_ranges}
use Rattle.list_text.proofs.are_ranges.Given as goal

abbrev pub invariant-loop-word : goal.invariant-loop-word
invariant-loop-word g l = is_some (all_ranges g.P.PointText.reads (left l.words)) ≡ is_some (all_ranges g.P.PointText.reads (left l.initial.words))

abbrev pub decreases-loop-word : goal.decreases-loop-word
decreases-loop-word g l = length (left l.words)
