use Rattle.std.proofs.Common.{◌+◌, sym, subst, arith}
use Rattle.payload.specs.Lists.{held}
use Rattle.verdict.specs.declared.Verdict.{Verdict}
use Rattle.verdict.proofs.Blocks.{Seen, seen_valid, seen_invalid, seen_not, seen_all}
use Rattle.verdict.proofs.judge_tidy.Goals as goal
use Rattle.verdict.proofs.judge_tidy.Goals.{in-Invalid, in-NotFound}

pub returns-in-Valid : goal.returns-in-Valid
returns-in-Valid c =
    seen_valid (held c.args.list.now) c.args.route.prefix c.args.route.origin c.requires c.loop-length.length c.cut.result c.around.result.now c.cut.ensures c.around.ensures
    c.walk.result c.walk.ensures c.in-Valid.is

pub loop-length-preserved : goal.loop-length-preserved
loop-length-preserved c =
    let xs = held c.args.list.now in
    let l = c.loop-length.length in
    let P : Verdict → Type 0 = λ v. Seen xs c.args.route.prefix c.args.route.origin (l + 1) v in
    elim c.match-walk.branch [
      | in-Invalid w ↦ subst P (sym w.verdict-is)
          (seen_invalid xs c.args.route.prefix c.args.route.origin c.requires l c.cut.result c.around.result.now c.cut.ensures c.around.ensures c.walk.result c.walk.ensures c.loop-length.verdict w.in-Invalid.is c.loop-length.invariant)
      | in-NotFound w ↦ subst P (sym w.verdict-is)
          (seen_not xs c.args.route.prefix c.args.route.origin c.requires l c.cut.result c.around.result.now c.cut.ensures c.around.ensures c.walk.result c.walk.ensures c.loop-length.verdict w.in-NotFound.is c.loop-length.invariant)
    ]

pub returns : goal.returns
returns c = seen_all (held c.args.list.now) c.args.route.prefix c.args.route.origin c.loop-length.verdict c.loop-length.length (omega (arith, c.loop-length-test.false)) c.loop-length.invariant

pub returns-after-walk : goal.returns-after-walk
returns-after-walk c =
    let xs = held c.args.list.now in
    let l = c.loop-length.length in
    let P : Verdict → Type 0 = λ v. Seen xs c.args.route.prefix c.args.route.origin (l + 1) v in
    let last : P c.match-walk.verdict = elim c.match-walk.branch [
      | in-Invalid w ↦ subst P (sym w.verdict-is)
          (seen_invalid xs c.args.route.prefix c.args.route.origin c.requires l c.cut.result c.around.result.now c.cut.ensures c.around.ensures c.walk.result c.walk.ensures c.loop-length.verdict w.in-Invalid.is c.loop-length.invariant)
      | in-NotFound w ↦ subst P (sym w.verdict-is)
          (seen_not xs c.args.route.prefix c.args.route.origin c.requires l c.cut.result c.around.result.now c.cut.ensures c.around.ensures c.walk.result c.walk.ensures c.loop-length.verdict w.in-NotFound.is c.loop-length.invariant)
    ] in
    seen_all xs c.args.route.prefix c.args.route.origin c.match-walk.verdict (l + 1) (omega arith) last
