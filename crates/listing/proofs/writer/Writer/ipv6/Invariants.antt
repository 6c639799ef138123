use Rattle.std.proofs.Common.{◌≡◌, ◌+◌, ◌*◌, ◌≤◌}
use Rattle.listing.specs.Texts.{groups_text}
use Rattle.listing.specs.Writing.{Written}
use Rattle.listing.proofs.writer.Writer.ipv6.Given as goal

abbrev pub invariant-loop-place : goal.invariant-loop-place
invariant-loop-place l =
    Written (groups_text l.place l.address) l.initial.self.area.now l.initial.self.at l.self.area.now l.self.at × (l.self.at ≤ l.initial.self.at + 5 * l.place) × (l.self.area.ghost_name ≡ l.initial.self.area.ghost_name)
