use Rattle.std.proofs.Common.{◌≡◌, Ok, sym, refl}
use Rattle.verdict.specs.Routes.{judged}
use Rattle.payload.specs.Lists.{held}
use Rattle.verdict.proofs.Verdicts.{answer, by_judged}
use Rattle.verdict.proofs.judge.Goals as goal

pub returns : goal.returns
returns c =
    let e : Ok c.walk.result ≡ judged (held c.args.list.now) c.args.route.prefix c.args.route.origin =
    answer _ _ c.args.route.prefix c.args.route.origin c.walk.result (sym c.if-not-is_lawful.ensures) c.payloads.ensures.value c.walk.ensures in
    record { value = e; rfc = by_judged _ c.args.route.prefix c.args.route.origin (Ok c.walk.result) e }

pub returns-then-is_tidy : goal.returns-then-is_tidy
returns-then-is_tidy c =
    let e : Ok c.judge_tidy.result ≡ judged (held c.args.list.now) c.args.route.prefix c.args.route.origin =
    answer (held c.args.list.now) (held c.args.list.now) c.args.route.prefix c.args.route.origin c.judge_tidy.result (sym c.if-not-is_lawful.ensures) refl c.judge_tidy.ensures in
    record { value = e; rfc = by_judged (held c.args.list.now) c.args.route.prefix c.args.route.origin (Ok c.judge_tidy.result) e }
