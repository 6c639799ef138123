use Rattle.std.proofs.Common.{arith}
use Rattle.std.proofs.lemmas.Nat.{one_shl, pow_pos}
use Rattle.prefixes.proofs.ones.Goals as goal

pub overflow_sub-result : goal.overflow_sub-result
overflow_sub-result c = omega (arith, one_shl c.args.count 128 c.if-count-lt128.true, pow_pos c.args.count)

pub returns-then-count-lt128 : goal.returns-then-count-lt128
returns-then-count-lt128 c = omega (arith, one_shl c.args.count 128 c.if-count-lt128.true, pow_pos c.args.count)
