use Rattle.std.proofs.lemmas.Result.{IfOk-from_err}
use Rattle.hex_text.proofs.Texts.{text_more, text_all, reads_back}
use Rattle.hex_text.proofs.push_octets.Goals as goal

pub returns-in_err-push_octet : goal.returns-in_err-push_octet
returns-in_err-push_octet c = record { value = IfOk-from_err c.from_residual.result _ c.from_residual.ensures.0; back = reads_back }

pub loop-x-preserved : goal.loop-x-preserved
loop-x-preserved c =
    text_more _ _ _ _ c.loop-x.x-index c.loop-x-test.true c.in_ok-push_octet.ensures c.loop-x.invariant

pub returns : goal.returns
returns c = record { value = text_all _ _ _ c.loop-x.x-index c.loop-x-test.false c.loop-x.invariant; back = reads_back }
