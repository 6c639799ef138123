use Rattle.hex_text.proofs.Texts.{two_pushed}
use Rattle.hex_text.proofs.push_octet.Goals as goal

pub returns : goal.returns
returns c =
    two_pushed _ _ _ _ _ c.digit.result c.digit-2.result _ _ c.in_ok-push.ensures.bytes c.in_ok-push-2.ensures.bytes (c.push.ensures.ascii c.digit.ensures.bound)
    (c.push-2.ensures.ascii c.digit-2.ensures.bound) c.digit.ensures.value c.digit-2.ensures.value
