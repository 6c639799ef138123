use Rattle.std.proofs.Common.{◌+◌, ◌/◌, ap, ◌∙◌, arith}
use Rattle.std.proofs.lemmas.Nat.{leading_length}
use Rattle.entry_writer.proofs.Written.{size_is}
use Rattle.entry_writer.proofs.number_size.Goals as goal

pub returns-clause-value : goal.returns-clause-value
returns-clause-value c =
    let b = leading_length 32 c.args.number c.ranges.number.fits in
    ap (λ m. 1 + m / 8) (omega (arith, b.1)) ∙ size_is c.args.number b.0 b.2 b.3 c.ranges.number.fits
