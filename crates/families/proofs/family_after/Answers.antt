-- The reading by numbers ends as the one by families does.
use Rattle.std.proofs.Common.{Ok, Err}
use Rattle.std.proofs.lemmas.Result.{err_from_is_err_and}
use Rattle.element.specs.Reading.{octets_of}
use Rattle.families.specs.Families.{family_seen}
use Rattle.families.proofs.Numbers.{numbered_so}
use Rattle.families.proofs.family_after.Goals as goal

pub returns-in_err-family-clause-value : goal.returns-in_err-family-clause-value
returns-in_err-family-clause-value g c =
    let p = err_from_is_err_and c.from_residual.result c.from_residual.ensures.1 in
    let fault = g.F.LayerFault.told c.in_err-family.field-0.0 in
    let n = c.args.before in
    rw p.1 (rw p.2
    (numbered_so g.F.LayerFault.layer n (octets_of c.args.content) c.last_up_to.result (Err fault) c.last_up_to.ensures
    c.in_err-family.ensures.value))

pub returns-clause-value : goal.returns-clause-value
returns-clause-value g c =
    let found = family_seen (c.in_ok-family.family, c.in_ok-family.rest) in
    let n = c.args.before in
    rw c.number_of.ensures
    (numbered_so g.F.LayerFault.layer n (octets_of c.args.content) c.last_up_to.result (Ok found) c.last_up_to.ensures
    c.in_ok-family.ensures.value)
