use Rattle.std.proofs.Common.{◌+◌, drop, sym, ap, ◌∙◌}
use Rattle.payload.proofs.Orders.{blank}
use Rattle.verdict.specs.declared.Verdict.{Verdict}
use Rattle.verdict.specs.Routes.{verdict_after}
use Rattle.verdict.proofs.Walks.{walk_match, walk_cover, walk_other, walk_all}
use Rattle.verdict.proofs.walk.Goals as goal
use Rattle.verdict.proofs.walk.Goals.{then-covers+else-allows, else-covers}

pub returns-then-allows : goal.returns-then-allows
returns-then-allows c =
    walk_match c.args.payloads.now c.args.route.prefix c.args.route.origin c.loop-p.p-index blank _ _ c.loop-p-test.true c.loop-p.invariant (sym c.if-covers.ensures) (sym c.if-allows.ensures)

pub loop-p-preserved : goal.loop-p-preserved
loop-p-preserved c =
    let xs = c.args.payloads.now in
    let i = c.loop-p.p-index in
    let F : Verdict → Verdict = λ v. verdict_after v (drop (i + 1) xs) c.args.route.prefix c.args.route.origin in
    elim c.if-covers.branch [
      | then-covers+else-allows w ↦ ap F w.verdict-is ∙ walk_cover xs c.args.route.prefix c.args.route.origin i blank c.loop-p.verdict _ c.loop-p-test.true c.loop-p.invariant (sym c.covers.ensures ∙ w.if-covers.true) (sym w.allows.ensures ∙ w.if-allows.false)
      | else-covers w ↦ ap F w.verdict-is ∙ walk_other xs c.args.route.prefix c.args.route.origin i blank c.loop-p.verdict _ c.loop-p-test.true c.loop-p.invariant (sym c.covers.ensures ∙ w.if-covers.false)
    ]

pub returns : goal.returns
returns c = walk_all _ _ _ c.loop-p.p-index _ _ c.loop-p-test.false c.loop-p.invariant
