use Rattle.std.proofs.Common.{◌≡◌, ◌+◌, ◌≤◌, List, length, take, drop, set, sym, ap, ◌∙◌, arith, Ok, Result}
use Rattle.std.proofs.lemmas.List.{drop-set-lt, drop-drop}
use Rattle.fault.specs.declared.Report.{Report}
use Rattle.std.proofs.lemmas.Result.{err_from_is_err_and}
use Rattle.file_faults.specs.Reports.{content_report}
use Rattle.element.specs.Reading.{seen}
use Rattle.layout.specs.Expecting.{then_read}
use Rattle.roa.specs.declared.RoaRow.{RoaRow}
use Rattle.roa.specs.Filling.{filled_in, filled}
use Rattle.roa.proofs.Tables.{stored, unstored, in_table, under}
use Rattle.roa.proofs.FamilyRowsRowContentFault.take.Goals as goal

pub returns : goal.returns
returns c =
    let s = c.args.self in
    let t = s.table.now in
    let n = s.count in
    let r = c.in_ok-row.row in
    let room = under s.base n s.after c.in_ok-row.ensures.room in
    let few = in_table s.base n t s.few room s.size in
    let past : drop (n + 1) (set t n r) ≡ drop 1 (drop n t) = drop-set-lt (n + 1) t n r (omega arith) ∙ sym (drop-drop 1 n t) in
    ap (λ (ps : List RoaRow). Ok record (filled_in s) { rows = take (n + 1) (set t n r); past = ps }) past
    ∙ ap (λ (o : Result (List RoaRow) Report). then_read o (λ rs. Ok (filled (filled_in s) rs))) (stored s.family s.base n t (seen c.args.row.now) r few c.in_ok-row.ensures.value)

pub returns-in_err-row : goal.returns-in_err-row
returns-in_err-row c =
    let s = c.args.self in
    let t = s.table.now in
    let n = s.count in
    let few : n ≤ length t = omega (arith, s.size, s.few, s.room) in
    let p = err_from_is_err_and c.from_residual.result c.from_residual.ensures.1 in
    let e = unstored s.family s.base n t (seen c.args.row.now) (content_report c.in_err-row.field-0.0) few c.in_err-row.ensures.value in
    rw p.1 (rw p.2 (ap (λ (o : Result (List RoaRow) Report). then_read o (λ rs. Ok (filled (filled_in s) rs))) e))
