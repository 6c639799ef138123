use Rattle.std.proofs.Common.{◌≡◌, ◌++◌, drop, string_bytes}
use Rattle.hex_text.specs.Digits.{hex_text}
use Rattle.hex_text.proofs.push_octets.Given as goal

abbrev pub invariant-loop-x : goal.invariant-loop-x
invariant-loop-x l = string_bytes l.text ++ hex_text (drop l.x-index l.octets) ≡ string_bytes l.initial.text ++ hex_text l.octets
