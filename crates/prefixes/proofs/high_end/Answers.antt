use Rattle.std.proofs.Common.{◌≡◌, ◌+◌, Some, arith}
use Rattle.prefixes.specs.Reading.{HighEnd, high_end}
use Rattle.family.specs.Widths.{width}
use Rattle.prefixes.proofs.Ends.{high-answer, whole, below128}
use Rattle.prefixes.proofs.high_end.Goals as goal

answer :
    (c : goal.After-ones)
    → (Some (c.padded.result + c.ones.result) ≡ high_end (width c.args.family) c.args.bits.octets.now c.args.bits.unused)
    × HighEnd (width c.args.family) c.args.bits.octets.now c.args.bits.unused (c.padded.result + c.ones.result)
answer c =
    let v = c.args.family in
    let e = c.padded.ensures in
    high-answer (width v) c.args.bits.octets.now c.args.bits.unused c.padded.result _ c.ones.result (whole v)
    c.if-not-is_readable.ensures (λ _. e.value) e.bound (omega arith) c.ones.ensures

pub overflow_add-result : goal.overflow_add-result
overflow_add-result c = omega (arith, below128 c.args.family (c.padded.result + c.ones.result) (answer c).1.below)

pub returns : goal.returns
returns c = let r = answer c in record { value = r.0; relation = r.1; bound = r.1.below }
