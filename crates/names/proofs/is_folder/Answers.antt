use Rattle.std.proofs.Common.{◌≡◌, eqb, length, get_or, ◌-◌, rules}
use Rattle.std.proofs.lemmas.Bool.Decides.{Decides-at}
use Rattle.names.specs.Tests.{is_folder}
use Rattle.names.proofs.Tested.{folder_decides}
use Rattle.names.proofs.is_folder.Goals as goal

pub returns-then-all_of-clause-relation : goal.returns-then-all_of-clause-relation
returns-then-all_of-clause-relation c = let v : eqb (get_or c.args.octets.now (length c.args.octets.now - 1) 0) 47 ≡ is_folder c.args.octets.now = search rules in Decides-at _ _ v (folder_decides c.args.octets.now)

pub returns-else-all_of-clause-relation : goal.returns-else-all_of-clause-relation
returns-else-all_of-clause-relation c = let v : c.all_of.result ≡ is_folder c.args.octets.now = search rules in Decides-at _ _ v (folder_decides c.args.octets.now)
