use Rattle.std.proofs.Common.{◌≡◌, length, Ok, Err, sym, arith, rules}
use Rattle.std.proofs.lemmas.Result.{err_from_is_err_and}
use Rattle.element.specs.Reading.{octets_of}
use Rattle.file_faults.specs.Reports.{content_report}
use Rattle.roa.specs.Filling.{filled_in}
use Rattle.roa.proofs.Filling.{filled_so, filled_at, past_at}
use Rattle.roa.proofs.read_rows.Goals as goal

pub returns-in_err-rows : goal.returns-in_err-rows
returns-in_err-rows c =
    let p = err_from_is_err_and c.from_residual.result c.from_residual.ensures.1 in
    let e = filled_so c.args.table.now _ (octets_of c.args.content) (Err (content_report c.in_err-rows.field-0.0)) c.in_err-rows.ensures in
    record { value = rw p.1 (rw p.2 (sym e)); past = rw p.1 tt }

pub returns : goal.returns
returns c =
    let known = c.in_ok-rows.rows in
    let k = filled_so c.args.table.now _ (octets_of c.args.content) (Ok (filled_in known)) c.in_ok-rows.ensures in
    let name = k.1.name in
    let base = k.1.base in
    let size : length c.args.table.now ≡ 512 = omega arith in
    record {
      value = filled_at known.count known.table.now _ _ (search (rules, name)) k.0;
      past = (
        omega (arith, known.after, base),
        omega (arith, known.room, base),
        past_at c.args.base known.count c.args.table.now known.table.now _ (omega (arith, size, c.requires.base))
            (omega (arith, known.size, known.few, known.room)) (search (rules, name)) k.1.past,
      );
    }
