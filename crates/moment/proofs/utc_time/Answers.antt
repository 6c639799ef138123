-- Each answer is the number that was read, tested; what it says of the content follows from that.
use Rattle.moment.proofs.Readings.{utc_none, utc_some, answers_utc}
use Rattle.moment.proofs.utc_time.Goals as goal

pub returns-in_err-full : goal.returns-in_err-full
returns-in_err-full c =
    let s = c.args.content.now in
    let r = c.from_residual.result in
    let e = utc_none s r c.in_err-full.ensures c.from_residual.ensures in
    record { value = e; relation = answers_utc s r e }

pub returns : goal.returns
returns c =
    let s = c.args.content.now in
    let r = c.new.result in
    let z = c.in_ok-full.ensures in
    let e = utc_some s r c.in_ok-full.full z c.new.ensures in
    record { value = e; relation = answers_utc s r e }
