use Rattle.std.proofs.Common.{arith}
use Rattle.family.specs.Widths.{width}
use Rattle.prefixes.proofs.Octets.{low_count_lem}
use Rattle.prefixes.proofs.bit_count_low.Goals as goal

pub returns : goal.returns
returns c =
    let r = low_count_lem (width c.args.family) c.args.first c.zero_tail.result _ c.zero_tail.ensures.value (omega arith) in
    record { value = r.0; relation = r.1 }
