-- The test goes by the parts of the number; that it tells the moments follows from that.
use Rattle.std.proofs.Common.{◌∙◌}
use Rattle.moment.proofs.Dates.{by_time, no_day, answers_moment}
use Rattle.moment.proofs.is_moment.Goals as goal

pub returns-then-is_day : goal.returns-then-is_day
returns-then-is_day c =
    let e = by_time c.args.number c.is_time.result c.if-is_day.ensures c.is_time.ensures in
    record { value = e; dates = answers_moment c.args.number c.is_time.result e }

pub returns-else-is_day : goal.returns-else-is_day
returns-else-is_day c =
    let e = c.if-is_day.false ∙ no_day c.args.number c.if-is_day.ensures in
    record { value = e; dates = answers_moment c.args.number c.is_day.result e }
