use Rattle.std.proofs.Common.{◌≡◌, false, ltb, length, rules}
use Rattle.std.proofs.lemmas.Bool.Decides.{Decides-at}
use Rattle.names.specs.Tests.{is_name}
use Rattle.names.proofs.Tested.{name_decides}
use Rattle.names.proofs.is_name.Goals as goal

pub returns-then-octets-gt128-clause-relation : goal.returns-then-octets-gt128-clause-relation
returns-then-octets-gt128-clause-relation c = let v : false ≡ is_name c.args.octets.now = search rules in Decides-at _ _ v (name_decides c.args.octets.now)

pub returns-then-size-gt0-clause-relation : goal.returns-then-size-gt0-clause-relation
returns-then-size-gt0-clause-relation c = let v : ltb c.folder_len-size.result (length c.args.octets.now) ≡ is_name c.args.octets.now = search rules in Decides-at _ _ v (name_decides c.args.octets.now)
