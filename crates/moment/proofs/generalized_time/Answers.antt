-- Each answer is the number that was read, tested; what it says of the content follows from that.
use Rattle.moment.proofs.Readings.{generalized_none, generalized_some, answers_generalized}
use Rattle.moment.proofs.generalized_time.Goals as goal

pub returns-in_err-number : goal.returns-in_err-number
returns-in_err-number c =
    let s = c.args.content.now in
    let r = c.from_residual.result in
    let e = generalized_none s r c.in_err-number.ensures.value c.from_residual.ensures in
    record { value = e; relation = answers_generalized s r e }

pub returns : goal.returns
returns c =
    let s = c.args.content.now in
    let r = c.new.result in
    let z = c.in_ok-number.ensures.value in
    let e = generalized_some s r c.in_ok-number.number z c.new.ensures in
    record { value = e; relation = answers_generalized s r e }
