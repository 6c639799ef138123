use Rattle.std.proofs.Common.{arith}
use Rattle.family.specs.Widths.{width}
use Rattle.prefixes.proofs.Octets.{high_count_lem}
use Rattle.prefixes.proofs.bit_count_high.Goals as goal

pub returns : goal.returns
returns c =
    let r = high_count_lem (width c.args.family) c.args.last c.one_tail.result _ c.one_tail.ensures.value (omega arith) in
    record { value = r.0; relation = r.1 }
