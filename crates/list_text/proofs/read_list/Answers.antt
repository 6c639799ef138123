use Rattle.std.proofs.Common.{Some, vec_items, ap, ◌∙◌}
use Rattle.std.specs.Str.{bytes_eq}
use Rattle.std.proofs.lemmas.Result.{IfOk-weaker}
use Rattle.list_text.proofs.Theorem.{reads_list}
use Rattle.list_text.proofs.Steps.{none_is, ranges_are}
use Rattle.list_text.proofs.read_list.Goals as goal

pub returns-then-eq-clause-text : goal.returns-then-eq-clause-text
returns-then-eq-clause-text g c =
    let p = g.P.PointText in
    let m = g.met.P.PointText in
    let w = c.args.word.now in
    reads_list p.reads p.text p.folded p.proper m.words.text_read m.words.read_text m.words.blind w (Some (vec_items c.new.result)) (none_is p.reads w (vec_items c.new.result) c.new.ensures.items (c.if-eq.ensures ∙ ap (bytes_eq w) c.as_slice.ensures))

pub returns-clause-text : goal.returns-clause-text
returns-clause-text g c =
    let p = g.P.PointText in
    let m = g.met.P.PointText in
    let w = c.args.word.now in
    IfOk-weaker c.read_ranges.result _ _
    (λ o h. reads_list p.reads p.text p.folded p.proper m.words.text_read m.words.read_text m.words.blind w _ (ranges_are p.reads w _ _ c.of.ensures.value (c.if-eq.ensures ∙ ap (bytes_eq w) c.as_slice.ensures) h)) c.read_ranges.ensures
