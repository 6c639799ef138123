use Rattle.std.proofs.Common.{◌^◌, ◌<◌, min, ap, ◌∙◌, rules}
use Rattle.family.specs.Widths.{width}
use Rattle.prefixes.proofs.Ends.{most}
use Rattle.prefixes.proofs.Tails.{one_answer}
use Rattle.prefixes.proofs.one_tail.Goals as goal

pub returns : goal.returns
returns c =
    let v = c.args.family in
    let x = c.trailing_ones.result in
    let fits : c.args.address < 2 ^ 128 = search rules in
    let r = one_answer (width v) x c.args.address c.min.result fits c.trailing_ones.ensures (c.min.ensures ∙ ap (min x) (c.from.ensures ∙ c.width.ensures.value)) (most v) in
    record { value = r.0; most = r.1 }
