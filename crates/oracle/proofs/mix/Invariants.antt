use Rattle.std.proofs.Common.{◌≡◌, ◌<◌, length, drop}
use Rattle.oracle.specs.Runs.{xor_run}
use Rattle.oracle.proofs.mix.Given as goal

abbrev pub invariant-loop-octet : goal.invariant-loop-octet
invariant-loop-octet l = (l.at < 32) × (length l.block ≡ 32) × (xor_run l.block l.at (drop l.octet-index l.octets) ≡ xor_run l.initial.block l.from l.octets)
