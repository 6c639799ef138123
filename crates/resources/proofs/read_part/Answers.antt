use Rattle.std.proofs.Common.{rules}
use Rattle.resources.specs.Parts.{read_part, ranges_of}
use Rattle.resources.proofs.read_part.Goals as goal

pub returns-in_err-element : goal.returns-in_err-element
unfolding read_part ranges_of
returns-in_err-element g c = search rules

pub returns-in_err-held : goal.returns-in_err-held
unfolding read_part ranges_of
returns-in_err-held g c = search rules

pub returns-in_err-end : goal.returns-in_err-end
unfolding read_part ranges_of
returns-in_err-end g c = search rules

pub returns : goal.returns
unfolding read_part ranges_of
returns g c = search rules
