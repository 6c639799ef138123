use Rattle.payload.specs.Lists.{held}
use Rattle.verdict.proofs.Blocks.{Seen}
use Rattle.verdict.proofs.judge_tidy.Given as goal

abbrev pub invariant-loop-length : goal.invariant-loop-length
invariant-loop-length l = Seen (held l.list) l.route.prefix l.route.origin l.length l.verdict
