use Rattle.std.proofs.Common.{◌-◌, ◌<◌, ◌≤◌, length, take, drop, vec_items, sym, arith}
use Rattle.std.proofs.lemmas.Result.{IfOk-from_err}
use Rattle.std.proofs.lemmas.Bool.{eqb-true, eqb-false}
use Rattle.hex_text.proofs.Texts.{first_two, after_more, after_refused, after_all, after_odd, writes_back}
use Rattle.hex_text.proofs.decode.Goals as goal

pub returns-in_default : goal.returns-in_default
returns-in_default c =
    let s = c.loop-rest.rest.now in
    let two : 2 ≤ length s = omega arith in
    record { value = after_refused _ s _ _ _ _ (first_two s two) c.in_default.ensures c.loop-rest.invariant; back = writes_back }

pub returns-in_err-push : goal.returns-in_err-push
returns-in_err-push c = record { value = IfOk-from_err c.from_residual.result _ c.from_residual.ensures.0; back = writes_back }

pub loop-rest-preserved : goal.loop-rest-preserved
loop-rest-preserved c =
    let s = c.loop-rest.rest.now in
    let two : 2 ≤ length s = omega arith in
    after_more (vec_items c.loop-rest.octets) (vec_items c.push.new.self) s (take (length s - 2) (drop 2 s)) _ _ _ _ (first_two s two) c.in-Some.ensures c.in_ok-push.ensures.items c.loop-rest.invariant

pub returns-then-is_empty : goal.returns-then-is_empty
returns-then-is_empty c =
    record { value = after_all _ c.loop-rest.rest.now _ (eqb-true _ _ (sym c.if-is_empty.ensures)) c.loop-rest.invariant; back = writes_back }

pub returns-else-is_empty : goal.returns-else-is_empty
returns-else-is_empty c =
    let s = c.loop-rest.rest.now in
    let few : length s < 2 = omega arith in
    record { value = after_odd _ s _ few (eqb-false _ _ (sym c.if-is_empty.ensures)) c.loop-rest.invariant; back = writes_back }
