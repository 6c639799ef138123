use Rattle.std.proofs.Common.{refl}
use Rattle.listing_reader.proofs.Laws.{reads_back, reads_only}
use Rattle.listing_reader.proofs.reading_stands.Goals as goal

pub returns : goal.returns
returns c = record { shown = refl; back = reads_back; only = reads_only }
