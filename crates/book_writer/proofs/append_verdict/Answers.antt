use Rattle.std.proofs.Common.{[], ◌∷◌, ◌++◌, vec_items}
use Rattle.std.proofs.lemmas.Result.{err_from_is_err_and}
use Rattle.record.specs.Format.{Signed}
use Rattle.record.specs.Writing.{field_octets, record_octets}
use Rattle.book_writer.proofs.Appends.{join, appended_more, appended_part}
use Rattle.book_writer.proofs.append_verdict.Goals as goal

pub returns-in_err-append_field : goal.returns-in_err-append_field
returns-in_err-append_field c =
    let r = c.from_residual-in_err-append_field in
    let p = err_from_is_err_and r.result r.ensures.1 in
    appended_part r.result p.0 (vec_items c.args.book.now) (vec_items c.push.new.self) (vec_items c.append_field.new.book)
    (0x59 ∷ []) (record_octets (Signed c.args.claim.key.now c.args.claim.message.now c.args.claim.signature.now))
    p.1 c.in_ok-push.ensures.items c.in_err-append_field.ensures

pub returns-in_err-append_field-2 : goal.returns-in_err-append_field-2
returns-in_err-append_field-2 c =
    let r = c.from_residual-in_err-append_field-2 in
    let p = err_from_is_err_and r.result r.ensures.1 in
    let book = vec_items c.args.book.now in
    let key = field_octets c.args.claim.key.now in
    let mid = vec_items c.append_field.new.book in
    appended_part r.result p.0 book mid (vec_items c.append_field-2.new.book)
    (0x59 ∷ key) (record_octets (Signed c.args.claim.key.now c.args.claim.message.now c.args.claim.signature.now))
    p.1 (join book (vec_items c.push.new.self) mid (0x59 ∷ []) key c.in_ok-push.ensures.items c.in_ok-append_field.ensures)
    c.in_err-append_field-2.ensures

pub returns : goal.returns
returns c =
    let book = vec_items c.args.book.now in
    let key = field_octets c.args.claim.key.now in
    let message = field_octets c.args.claim.message.now in
    let signature = field_octets c.args.claim.signature.now in
    let r = c.append_field-3.result in
    let kind = vec_items c.push.new.self in
    let one = vec_items c.append_field.new.book in
    let two = vec_items c.append_field-2.new.book in
    let end = vec_items c.append_field-3.new.book in
    appended_more r book kind end (0x59 ∷ []) (key ++ (message ++ signature)) c.in_ok-push.ensures.items
    (appended_more r kind one end key (message ++ signature) c.in_ok-append_field.ensures
    (appended_more r one two end message signature c.in_ok-append_field-2.ensures c.append_field-3.ensures))
