use Rattle.std.proofs.Common.{arith}
use Rattle.entries.proofs.Values.{value_small, value-more, value_all}
use Rattle.entries.proofs.big_endian.Goals as goal

pub overflow_mul-value : goal.overflow_mul-value
overflow_mul-value c = let s = value_small c.loop-octet.value c.loop-octet.octet-index c.loop-octet.invariant.1 (omega arith) in omega arith

pub overflow_add-value : goal.overflow_add-value
overflow_add-value c = let s = value_small c.loop-octet.value c.loop-octet.octet-index c.loop-octet.invariant.1 (omega arith) in omega arith

pub loop-octet-preserved : goal.loop-octet-preserved
loop-octet-preserved c =
    value-more c.loop-octet.value c.from.result c.loop-octet.octet-index c.args.octets.now c.loop-octet.invariant.0 c.loop-octet.invariant.1 c.loop-octet-test.true c.from.ensures (omega arith)

pub returns : goal.returns
returns c = value_all _ _ c.args.octets.now c.loop-octet.invariant.0 c.loop-octet-test.false
