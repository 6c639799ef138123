use Rattle.std.proofs.Common.{rules}
use Rattle.listing_reader.specs.Lines.{line_of}
use Rattle.listing_reader.proofs.line.Goals as goal

pub returns-in_err-p : goal.returns-in_err-p
unfolding line_of
returns-in_err-p c = search rules

pub returns-in_err-rest : goal.returns-in_err-rest
unfolding line_of
returns-in_err-rest c = search rules

pub returns : goal.returns
unfolding line_of
returns c = search rules
