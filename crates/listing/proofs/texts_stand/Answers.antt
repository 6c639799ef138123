use Rattle.std.proofs.Common.{refl}
use Rattle.listing.proofs.Tellings.{text_tells}
use Rattle.listing.proofs.texts_stand.Goals as goal

pub returns : goal.returns
returns c = record { shown = refl; theorem = text_tells }
