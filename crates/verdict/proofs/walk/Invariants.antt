use Rattle.std.proofs.Common.{◌≡◌, drop}
use Rattle.verdict.specs.Routes.{verdict_after, verdict_of}
use Rattle.verdict.proofs.walk.Given as goal

abbrev pub invariant-loop-p : goal.invariant-loop-p
invariant-loop-p l = verdict_after l.verdict (drop l.p-index l.payloads) l.route.prefix l.route.origin ≡ verdict_of l.payloads l.route.prefix l.route.origin
