use Rattle.entry_writer.proofs.Written.{one_size, more_size}
use Rattle.entry_writer.proofs.numbers_size.Goals as goal

pub returns-then-first-last-clause-value : goal.returns-then-first-last-clause-value
returns-then-first-last-clause-value c = one_size c.args.first c.args.last c.number_size.result c.if-first-last.true c.number_size.ensures.value

pub returns-else-first-last-clause-value : goal.returns-else-first-last-clause-value
returns-else-first-last-clause-value c =
    more_size c.args.first c.args.last _ _ c.if-first-last.false c.integer_size.ensures.value c.integer_size-else-first-last.ensures.value
