use Rattle.std.proofs.Common.{[], ◌∷◌, ◌++◌, vec_items}
use Rattle.std.proofs.lemmas.Result.{err_from_is_err_and}
use Rattle.record.specs.Format.{Known}
use Rattle.record.specs.Writing.{field_octets, record_octets}
use Rattle.book_writer.proofs.Appends.{appended_more, appended_part}
use Rattle.book_writer.proofs.append_digest.Goals as goal

pub returns-in_err-append_field : goal.returns-in_err-append_field
returns-in_err-append_field c =
    let r = c.from_residual-in_err-append_field in
    let p = err_from_is_err_and r.result r.ensures.1 in
    appended_part r.result p.0 (vec_items c.args.book.now) (vec_items c.push.new.self) (vec_items c.append_field.new.book)
    (0x44 ∷ []) (record_octets (Known c.args.known.octets.now c.args.known.digest))
    p.1 c.in_ok-push.ensures.items c.in_err-append_field.ensures

pub returns : goal.returns
returns c =
    let book = vec_items c.args.book.now in
    let octets = field_octets c.args.known.octets.now in
    let digest = field_octets c.args.known.digest in
    let end = vec_items c.append_field-2.new.book in
    appended_more c.append_field-2.result book (vec_items c.push.new.self) end (0x44 ∷ []) (octets ++ digest)
    c.in_ok-push.ensures.items
    (appended_more c.append_field-2.result (vec_items c.push.new.self) (vec_items c.append_field.new.book) end octets digest
    c.in_ok-append_field.ensures c.append_field-2.ensures)
