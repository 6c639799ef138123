use Rattle.std.proofs.Common.{◌∙◌}
use Rattle.std.proofs.lemmas.Result.{IfOk-weaker}
use Rattle.list_answers.proofs.Fronts.{write_is}
use Rattle.list_answers.proofs.written.Goals as goal

pub returns-in-Ok : goal.returns-in-Ok
returns-in-Ok g c =
    IfOk-weaker c.written_line.result _ _
    (λ s h. h ∙ write_is g.P.Point.rank g.P.WrittenResource.text c.args.list.now c.args.area.now c.write.new.area c.in-Ok.size c.in-Ok.ensures.value c.in-Ok.ensures.after)
    c.written_line.ensures
