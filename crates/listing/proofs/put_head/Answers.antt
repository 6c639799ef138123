use Rattle.std.proofs.Common.{◌∙◌, arith, rules}
use Rattle.listing.proofs.Writes.{head_all, written_to}
use Rattle.listing.proofs.put_head.Goals as goal

pub returns : goal.returns
returns c =
    let kept = c.word-2.ensures.kept ∙ c.decimal.ensures.kept ∙ c.word.ensures.kept in
    record { written = written_to (head_all c.args.count c.word.ensures.written c.decimal.ensures.written c.word-2.ensures.written) (search (rules, kept)); bound = omega arith }
