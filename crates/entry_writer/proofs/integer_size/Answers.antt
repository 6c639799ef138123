use Rattle.entry_writer.proofs.Written.{integer_size}
use Rattle.entry_writer.proofs.integer_size.Goals as goal

pub returns-clause-value : goal.returns-clause-value
returns-clause-value c = integer_size c.args.number c.number_size.result c.number_size.ensures.value
