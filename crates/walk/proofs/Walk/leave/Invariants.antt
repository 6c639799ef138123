use Rattle.std.proofs.Common.{◌≡◌, vec_len}
use Rattle.walk.proofs.Walk.leave.Given as goal

abbrev pub invariant-loop-end : goal.invariant-loop-end
invariant-loop-end l = (l.self.place ≡ l.initial.self.place) × (l.self.file.now ≡ l.initial.self.file.now)

abbrev pub decreases-loop-end : goal.decreases-loop-end
decreases-loop-end l = vec_len l.self.ends
