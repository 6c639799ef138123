use Rattle.std.proofs.Common.{refl}
use Rattle.entry_text.proofs.AsNumbers.{asn_laws}
use Rattle.entry_text.proofs.numbers_have_one_encoding.Goals as goal

pub returns : goal.returns
returns c = record { shown = refl; theorem = asn_laws }
