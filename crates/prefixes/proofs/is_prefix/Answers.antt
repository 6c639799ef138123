use Rattle.std.proofs.lemmas.Bool.Decides.{Decides-at}
use Rattle.family.specs.Widths.{width}
use Rattle.prefixes.specs.Ranges.{one_prefix}
use Rattle.prefixes.proofs.Tails.{prefix_answer, prefix_decides}
use Rattle.prefixes.proofs.is_prefix.Goals as goal

pub returns : goal.returns
returns c =
    let w = width c.args.family in
    let a = c.args.first in
    let b = c.args.last in
    let r = c.agree.result in
    let e = prefix_answer w a b c.shared_tail.result r c.shared_tail.ensures.value c.agree.ensures in
    record { value = e; relation = Decides-at r (one_prefix w a b) e (prefix_decides w a b) }
