use Rattle.std.proofs.Common.{ℕ, List, ap, ◌∙◌}
use Rattle.route_text.specs.Pieces.{after_word}
use Rattle.listing_reader.proofs.Fronts.{front_is}
use Rattle.listing_reader.proofs.past_line.Goals as goal

pub returns : goal.returns
returns c =
    c.after_word.ensures ∙ ap (λ (t : List ℕ). after_word t c.args.s.now) (front_is _ _ _ c.put_line-size.result c.put_line-size.ensures.written c.put_line-size.ensures.bound)
