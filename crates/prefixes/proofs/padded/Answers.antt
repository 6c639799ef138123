use Rattle.std.proofs.Common.{◌≡◌, ◌/◌, ◌-◌, arith}
use Rattle.family.specs.Widths.{width}
use Rattle.prefixes.proofs.Ends.{whole, most, padded_is, low_below}
use Rattle.prefixes.proofs.padded.Goals as goal

pub returns : goal.returns
returns c =
    let w = width c.args.family in
    let o = c.args.octets.now in
    let l = c.requires in
    let f : 16 - c.from-front.result ≡ 16 - w / 8 = omega (arith, c.from-front.ensures, c.width.ensures.value) in
    let e = padded_is w o c.between_zeros.result c.from_be_bytes.result _ (most c.args.family) l f c.between_zeros.ensures c.from_be_bytes.ensures in
    let b = low_below w o (whole c.args.family) l (λ i. omega (arith, c.type_inv.octets i)) in
    record { value = e; bound = omega (arith, e, b) }
