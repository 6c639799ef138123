use Rattle.std.proofs.Common.{vec_items, ◌∙◌, refl}
use Rattle.record.specs.Views.{record_seen}
use Rattle.record.specs.Writing.{Writable}
use Rattle.book_writer.proofs.Appends.{written_ok, cut_back}
use Rattle.book_writer.proofs.write_record.Goals as goal

pub returns-in-Ok : goal.returns-in-Ok
returns-in-Ok c =
    let r = record_seen c.args.added in
    let fits : Writable r = c.if-not-is_writable.ensures.0 refl in
    record { written = written_ok (vec_items c.args.book.now) (vec_items c.append_record.new.book) r fits c.in-Ok.ensures; refused = fits }

pub returns-in-Err : goal.returns-in-Err
returns-in-Err c =
    record {
      written = cut_back (vec_items c.args.book.now) (vec_items c.append_record.new.book) (vec_items c.truncate.new.self) c.len-before.result
          (c.len-before.ensures ∙ c.args.book.now.ok.0) c.in-Err.ensures c.truncate.ensures.items;
      refused = c.if-not-is_writable.ensures.0 refl;
    }
