use Rattle.std.proofs.Common.{refl}
use Rattle.point_words.proofs.Families.{v4_laws, v6_laws}
use Rattle.point_words.proofs.addresses_have_one_text.Goals as goal

pub returns : goal.returns
returns c = record { shown = refl; v4 = v4_laws; v6 = v6_laws }
