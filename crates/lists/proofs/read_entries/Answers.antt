use Rattle.std.proofs.Common.{◌≡◌, ◌+◌, List, length, Some, sym, subst, rules}
use Rattle.ranges.specs.declared.Range.{Range}
use Rattle.std.proofs.lemmas.Result.{err_from_is_err_and}
use Rattle.element.specs.Reading.{octets_of, seen}
use Rattle.fault.specs.Faults.{set_report, element_report}
use Rattle.lists.proofs.Going.{Going, begun, more, finished, faulted, no-element, no-entry, some_left, none_left}
use Rattle.lists.proofs.read_entries.Goals as goal

pub loop-rest-init : goal.loop-rest-init
loop-rest-init g c =
    let size : length c.args.table.now ≡ 256 = search rules in
    begun g.P.Point.rank g.P.Resource.entry (octets_of c.args.content) c.args.table.now size

pub returns-in_err-element : goal.returns-in_err-element
returns-in_err-element g c =
    let rank = g.P.Point.rank in
    let entry = g.P.Resource.entry in
    let l = c.loop-rest in
    let p = err_from_is_err_and c.from_residual.result c.from_residual.ensures.1 in
    let x = c.in_err-element.field-0.0 in
    let e = no-element rank entry l.count l.before (octets_of l.rest) x (some_left rank entry _ c.loop-rest-test.ensures) c.in_err-element.ensures.value in
    let f = faulted rank entry (octets_of c.args.content) c.args.table.now l.table l.count l.before (octets_of l.rest) (element_report x) l.invariant e in
    record { value = rw p.1 (rw p.2 f.0); table = f.1 }

pub returns-in_err-range : goal.returns-in_err-range
returns-in_err-range g c =
    let rank = g.P.Point.rank in
    let entry = g.P.Resource.entry in
    let l = c.loop-rest in
    let p = err_from_is_err_and c.from_residual-in_err-range.result c.from_residual-in_err-range.ensures.1 in
    let x = c.in_err-range.field-0.0 in
    let e = no-entry rank entry l.count l.before (octets_of l.rest) (seen c.in_ok-element.element) (octets_of c.in_ok-element.following) (set_report x)
    (some_left rank entry _ c.loop-rest-test.ensures) c.in_ok-element.ensures.value c.in_err-range.ensures.value in
    let f = faulted rank entry (octets_of c.args.content) c.args.table.now l.table l.count l.before (octets_of l.rest) (set_report x) l.invariant e in
    record { value = rw p.1 (rw p.2 f.0); table = f.1 }

pub loop-rest-preserved : goal.loop-rest-preserved
loop-rest-preserved g c =
    let rank = g.P.Point.rank in
    let entry = g.P.Resource.entry in
    let l = c.loop-rest in
    subst (λ (t : List (Range g.row.P.Denot)). Going rank entry (octets_of c.args.content) c.args.table.now t (l.count + 1) (Some c.in_ok-range.range) (octets_of c.in_ok-element.following))
    (sym c.store.ensures)
    (more rank entry (octets_of c.args.content) c.args.table.now l.table l.count l.before (octets_of l.rest) (seen c.in_ok-element.element) (octets_of c.in_ok-element.following) c.in_ok-range.range
    l.invariant c.in_ok-range.ensures.room (some_left rank entry _ c.loop-rest-test.ensures) c.in_ok-element.ensures.value c.in_ok-range.ensures.value)

pub returns : goal.returns
returns g c =
    let rank = g.P.Point.rank in
    let entry = g.P.Resource.entry in
    let l = c.loop-rest in
    let f = finished rank entry (octets_of c.args.content) c.args.table.now l.table l.count l.before (octets_of l.rest) l.invariant (none_left rank entry _ c.loop-rest-test.ensures) in
    record { value = f.0; table = f.1 }
