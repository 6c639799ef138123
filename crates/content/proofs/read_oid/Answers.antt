use Rattle.std.proofs.Common.{◌≡◌, sym, subst, rules}
use Rattle.content.specs.Values.{oid_seen, oid_of}
use Rattle.content.specs.Grammar.{ValueIn, OidValue}
use Rattle.content.proofs.Valued.{oid_valued}
use Rattle.content.proofs.read_oid.Goals as goal

pub returns : goal.returns
returns c =
    let s = c.args.content.now in
    let v : oid_seen c.then_some.result ≡ oid_of s = search rules in
    record { value = v; grammar = subst (ValueIn OidValue s) (sym v) (oid_valued s) }
