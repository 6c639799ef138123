use Rattle.std.proofs.Common.{◌≤◌, Ok, Err, sym, refl, arith, rules}
use Rattle.std.proofs.lemmas.Result.{err_from_is_err_and}
use Rattle.element.specs.Reading.{octets_of}
use Rattle.file_faults.specs.Reports.{content_report}
use Rattle.roa.specs.Gathering.{gathered_in}
use Rattle.roa.proofs.Tables.{most_rows_most}
use Rattle.roa.proofs.Gathering.{gathered_so, gathered_at, past_at}
use Rattle.roa.proofs.read_each_family.Goals as goal

pub returns-in_err-rows : goal.returns-in_err-rows
returns-in_err-rows c =
    let p = err_from_is_err_and c.from_residual.result c.from_residual.ensures.1 in
    let e = gathered_so c.args.table.now _ (octets_of c.args.content) (Err (content_report c.in_err-rows.field-0.0)) c.in_err-rows.ensures in
    record { value = rw p.1 (rw p.2 (sym e)); past = rw p.1 tt }

pub returns : goal.returns
returns c =
    let known = c.in_ok-rows.rows in
    let k = gathered_so c.args.table.now _ (octets_of c.args.content) (Ok (gathered_in known)) c.in_ok-rows.ensures in
    let name = k.1.name in
    let few = most_rows_most known.last in
    let room : known.count ≤ 512 = omega (arith, few, known.most) in
    record {
      value = gathered_at known.last known.count known.table.now _ _ (search (rules, name)) k.0;
      past = (
        room,
        past_at known.count c.args.table.now known.table.now _ (omega (arith, known.size, room)) (search (rules, name)) (k.1.past refl),
      );
    }
