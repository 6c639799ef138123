use Rattle.std.proofs.Common.{◌^◌, ◌<◌, rules}
use Rattle.prefixes.proofs.Tails.{shr_none}
use Rattle.prefixes.proofs.above.Goals as goal

pub returns-else-count-lt128 : goal.returns-else-count-lt128
returns-else-count-lt128 c =
    let fits : c.args.address < 2 ^ 128 = search rules in
    shr_none c.args.address c.args.count fits c.if-count-lt128.false
