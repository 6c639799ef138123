use Rattle.std.proofs.Common.{rules}
use Rattle.listing_reader.specs.Lines.{head_of}
use Rattle.listing_reader.proofs.head.Goals as goal

pub returns-in_err-count : goal.returns-in_err-count
unfolding head_of
returns-in_err-count c = search rules

pub returns-in_err-rest : goal.returns-in_err-rest
unfolding head_of
returns-in_err-rest c = search rules

pub returns : goal.returns
unfolding head_of
returns c = search rules
