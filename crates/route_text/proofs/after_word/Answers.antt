use Rattle.std.proofs.lemmas.Slice.Eq.{strip_prefix_is}
use Rattle.route_text.proofs.Steps.{after_is}
use Rattle.route_text.proofs.after_word.Goals as goal
use Rattle.std.proofs.lemmas.Bool.Decides.{Decides-eqb}

pub returns : goal.returns
returns c =
    let s = c.args.s.now in
    let w = c.args.word.now in
    let r = c.strip_prefix.result in
    after_is w s r (strip_prefix_is Decides-eqb s w r c.strip_prefix.ensures.cases)
