use Rattle.std.proofs.Common.{sym, ap, ◌∙◌, rules}
use Rattle.std.proofs.lemmas.Slice.{first_rest}
use Rattle.route_text.specs.Pieces.{number_of}
use Rattle.route_text.proofs.number.Goals as goal

pub returns-in-len1-up : goal.returns-in-len1-up
returns-in-len1-up c =
    record { value = c.number_from.ensures.value ∙ sym (ap number_of (first_rest c.args.s.now 0 (search rules))); bound = c.number_from.ensures.bound }
