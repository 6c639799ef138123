use Rattle.std.proofs.Common.{length, ◌∙◌}
use Rattle.std.proofs.lemmas.Result.{IfOk-weaker}
use Rattle.list_answers.proofs.Fronts.{join_fits, join_is}
use Rattle.list_answers.proofs.join_answer.Goals as goal

pub slice_bounds-joined_line-end-in-Ok : goal.slice_bounds-joined_line-end-in-Ok
slice_bounds-joined_line-end-in-Ok g c =
    join_fits g.P.Point.rank c.args.one.now c.args.other.now c.join.new.area (length c.args.area.now) c.in-Ok.count c.in-Ok.ensures.answer c.in-Ok.ensures.area.list

pub returns-in-Ok : goal.returns-in-Ok
returns-in-Ok g c =
    IfOk-weaker c.joined_line.result _ _
    (λ s h. h ∙ join_is g.P.Point.rank g.P.PointText.text c.args.one.now c.args.other.now c.join.new.area (length c.args.area.now) c.in-Ok.count c.in-Ok.ensures.answer c.in-Ok.ensures.area.list)
    c.joined_line.ensures
