use Rattle.std.proofs.Common.{refl}
use Rattle.point_words.proofs.Families.{asn_laws}
use Rattle.point_words.proofs.numbers_have_one_text.Goals as goal

pub returns : goal.returns
returns c = record { shown = refl; theorem = asn_laws }
