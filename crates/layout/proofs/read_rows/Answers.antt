use Rattle.std.proofs.Common.{refl, sym, ◌∙◌}
use Rattle.std.proofs.lemmas.Result.{err_from_is_err_and}
use Rattle.element.specs.Reading.{seen, octets_of}
use Rattle.layout.proofs.Rows.{some_left, none_left, ended, no-element, refused, taken}
use Rattle.layout.proofs.read_rows.Goals as goal

pub loop-rest-init : goal.loop-rest-init
loop-rest-init g c = refl

pub returns-in-Err : goal.returns-in-Err
returns-in-Err g c =
    let l = c.loop-rest in
    let e = no-element g.R.Row.step (g.R.Row.view l.known) (octets_of l.rest) c.in-Err.fault (some_left _ c.loop-rest-test.ensures) c.in-Err.ensures.value in
    rw c.of_element.ensures (sym (l.invariant ∙ e))

pub returns-in_err-known : goal.returns-in_err-known
returns-in_err-known g c =
    let l = c.loop-rest in
    let p = err_from_is_err_and c.from_residual.result c.from_residual.ensures.1 in
    let e = refused g.R.Row.step (g.R.Row.view l.known) (octets_of l.rest) (seen c.in-Ok.found.0) (octets_of c.in-Ok.found.1) (g.F.LayerFault.told c.in_err-known.field-0.0)
    (some_left _ c.loop-rest-test.ensures) c.in-Ok.ensures.value c.in_err-known.ensures in
    rw p.1 (rw p.2 (sym (l.invariant ∙ e)))

pub loop-rest-preserved : goal.loop-rest-preserved
loop-rest-preserved g c =
    let l = c.loop-rest in
    l.invariant ∙ taken g.R.Row.step (g.R.Row.view l.known) (g.R.Row.view c.in_ok-known.known) (octets_of l.rest) (seen c.in-Ok.found.0) (octets_of c.in-Ok.found.1)
    (some_left _ c.loop-rest-test.ensures) c.in-Ok.ensures.value c.in_ok-known.ensures

pub returns : goal.returns
returns g c =
    let l = c.loop-rest in
    sym (l.invariant ∙ ended g.R.Row.step (g.R.Row.view l.known) (octets_of l.rest) (none_left _ c.loop-rest-test.ensures))
