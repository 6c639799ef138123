use Rattle.std.proofs.Common.{◌-◌, ◌%◌, ◌^◌, ◌<◌, ap, arith, rules}
use Rattle.std.proofs.lemmas.Nat.{one_shl, pow_pos}
use Rattle.prefixes.proofs.Octets.{cleared_all}
use Rattle.prefixes.proofs.cleared.Goals as goal

pub nonzero_rem-result : goal.nonzero_rem-result
nonzero_rem-result c = omega (arith, one_shl c.args.count 128 c.if-count-lt128.true, pow_pos c.args.count)

pub returns-then-count-lt128 : goal.returns-then-count-lt128
returns-then-count-lt128 c =
    let a = c.args.address in
    ap (λ x. a - a % x) (one_shl c.args.count 128 c.if-count-lt128.true)

pub returns-else-count-lt128 : goal.returns-else-count-lt128
returns-else-count-lt128 c =
    let fits : c.args.address < 2 ^ 128 = search rules in
    cleared_all c.args.address c.args.count fits c.if-count-lt128.false
