use Rattle.std.proofs.Common.{refl}
use Rattle.prefixes.proofs.Laws.{has_octets, reads_back, prefix_reads_back, range_reads_back}
use Rattle.prefixes.proofs.written_is_read_back.Goals as goal

pub returns : goal.returns
returns c = record { shown = refl; octets = has_octets; bits = reads_back; prefix = prefix_reads_back; range = range_reads_back }
