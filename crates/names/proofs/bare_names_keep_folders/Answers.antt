use Rattle.std.proofs.Common.{refl}
use Rattle.names.proofs.Bare.{folder_of_bare}
use Rattle.names.proofs.bare_names_keep_folders.Goals as goal

pub returns : goal.returns
returns c = record { shown = refl; theorem = folder_of_bare }
