use Rattle.std.proofs.Common.{◌≡◌, length, vec_items}
use Rattle.hex_text.specs.Digits.{unhex}
use Rattle.hex_text.proofs.Texts.{after}
use Rattle.hex_text.proofs.decode.Given as goal

abbrev pub invariant-loop-rest : goal.invariant-loop-rest
invariant-loop-rest l = after (vec_items l.octets) (unhex l.rest) ≡ unhex l.digits

abbrev pub decreases-loop-rest : goal.decreases-loop-rest
decreases-loop-rest l = length l.rest
