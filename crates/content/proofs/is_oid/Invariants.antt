use Rattle.std.proofs.Common.{◌≡◌, true, drop}
use Rattle.content.specs.Forms.{arcs}
use Rattle.content.proofs.is_oid.Given as goal

abbrev pub invariant-loop-octet : goal.invariant-loop-octet
invariant-loop-octet l = arcs l.begins (drop l.octet-index l.content) ≡ arcs true l.content
