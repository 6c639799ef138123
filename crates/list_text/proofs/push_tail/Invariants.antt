use Rattle.std.proofs.Common.{◌≡◌, ◌++◌, take, drop, string_bytes}
use Rattle.ranges.specs.Sets.{Fit}
use Rattle.list_text.specs.Lists.{tail_text}
use Rattle.list_text.proofs.push_tail.Given as goal

abbrev pub invariant-loop-range : goal.invariant-loop-range
invariant-loop-range g l =
    (string_bytes l.out ++ tail_text g.P.PointText.text (drop l.range-index l.list) ≡ string_bytes l.initial.out ++ tail_text g.P.PointText.text l.list)
    × Fit g.P.PointText.proper (take l.range-index l.list)
