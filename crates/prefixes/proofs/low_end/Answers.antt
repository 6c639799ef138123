use Rattle.family.specs.Widths.{width}
use Rattle.prefixes.proofs.Ends.{low-answer, whole}
use Rattle.prefixes.proofs.low_end.Goals as goal

pub returns-then-is_readable : goal.returns-then-is_readable
returns-then-is_readable c =
    let v = c.args.family in
    let e = c.padded.ensures in
    let r = low-answer (width v) c.args.bits.octets.now c.args.bits.unused c.padded.result (whole v) c.if-is_readable.ensures (λ _. e.value) e.bound in
    record { value = r.0; relation = r.1; bound = e.bound }
