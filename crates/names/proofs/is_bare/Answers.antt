use Rattle.std.proofs.Common.{◌≡◌, arith}
use Rattle.std.proofs.lemmas.Grind.{common_steps}
use Rattle.std.proofs.lemmas.Bool.Decides.{Decides-at}
use Rattle.names.specs.Tests.{is_bare}
use Rattle.names.proofs.Bare.{bare_decides}
use Rattle.names.proofs.is_bare.Goals as goal

pub returns-then-octets-dot-eq46-clause-relation : goal.returns-then-octets-dot-eq46-clause-relation
returns-then-octets-dot-eq46-clause-relation c = let v : c.all_of-then-octets-dot-eq46.result ≡ is_bare c.args.octets.now = grind (arith, common_steps) in Decides-at _ _ v (bare_decides c.args.octets.now)

pub returns-else-octets-dot-eq46-clause-relation : goal.returns-else-octets-dot-eq46-clause-relation
returns-else-octets-dot-eq46-clause-relation c = let v : c.if-all_of.value ≡ is_bare c.args.octets.now = grind (arith, common_steps) in Decides-at _ _ v (bare_decides c.args.octets.now)
