use Rattle.std.proofs.Common.{◌≡◌, ◌+◌, ◌≤◌, take}
use Rattle.listing.specs.Writing.{Written}
use Rattle.listing.proofs.writer.Writer.word.Given as goal

abbrev pub invariant-loop-octet : goal.invariant-loop-octet
invariant-loop-octet l =
    Written (take l.octet-index l.word) l.initial.self.area.now l.initial.self.at l.self.area.now l.self.at × (l.self.at ≤ l.initial.self.at + l.octet-index) × (l.self.area.ghost_name ≡ l.initial.self.area.ghost_name)
