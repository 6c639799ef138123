use Rattle.family.specs.Widths.{width}
use Rattle.prefixes.proofs.Tails.{shared-answer}
use Rattle.prefixes.proofs.shared_tail.Goals as goal

pub returns : goal.returns
returns c =
    let z = c.zero_tail in
    let o = c.one_tail in
    let r =
    shared-answer (width c.args.family) c.args.first c.args.last z.result o.result c.min.result
    z.ensures.value o.ensures.value z.ensures.most c.min.ensures in
    record { value = r.0; most = r.1 }
