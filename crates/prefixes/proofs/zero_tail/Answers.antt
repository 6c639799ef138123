use Rattle.std.proofs.Common.{min, refl, ap, ◌∙◌}
use lib.Count.{count_trailing_zeros}
use Rattle.family.specs.Widths.{width}
use Rattle.prefixes.proofs.Ends.{most}
use Rattle.prefixes.proofs.Tails.{tail_answer}
use Rattle.prefixes.proofs.zero_tail.Goals as goal

pub returns : goal.returns
returns c =
    let v = c.args.family in
    let x = count_trailing_zeros 128 c.args.address in
    let r = tail_answer (width v) x c.args.address c.min.result refl (c.min.ensures ∙ ap (min x) (c.from.ensures ∙ c.width.ensures.value)) (most v) in
    record { value = r.0; most = r.1 }
