use Rattle.entry_writer.proofs.Written.{string_size}
use Rattle.entry_writer.proofs.bit_string_size.Goals as goal

pub returns-clause-value : goal.returns-clause-value
returns-clause-value c = λ a. string_size c.args.family a c.args.bits c.octet_count.result c.requires c.octet_count.ensures
