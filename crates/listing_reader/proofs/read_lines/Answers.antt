use Rattle.std.proofs.Common.{length, sym}
use Rattle.std.proofs.lemmas.Bool.{eqb-true, eqb-false}
use Rattle.listing_reader.proofs.Steps.{halfway_none, halfway_more, halfway_rest, halfway_stop, halfway_end, halfway_surplus}
use Rattle.listing_reader.proofs.read_lines.Goals as goal

pub loop-i-init : goal.loop-i-init
loop-i-init c = halfway_none c.args.count c.args.list.now c.args.s.now c.requires.empty

pub returns-in-Err : goal.returns-in-Err
returns-in-Err c =
    record {
      value = halfway_stop c.args.count c.loop-i.i c.args.list.now c.loop-i.list c.loop-i.rest.now c.args.s.now c.in-Err.why c.loop-i-test.true c.loop-i.invariant c.in-Err.ensures;
      rest = halfway_rest c.args.count c.loop-i.i c.args.list.now c.loop-i.list c.loop-i.rest.now c.args.s.now c.loop-i.invariant;
    }

pub loop-i-preserved : goal.loop-i-preserved
loop-i-preserved c =
    halfway_more c.args.count c.loop-i.i c.args.list.now c.loop-i.list c.add.new.list c.loop-i.rest.now c.args.s.now (c.in-Ok.p, c.in-Ok.after.now) c.loop-i-test.true c.loop-i.invariant
    c.in-Ok.ensures c.add.ensures

pub returns-then-is_empty : goal.returns-then-is_empty
returns-then-is_empty c =
    record {
      value = halfway_end c.args.count c.loop-i.i c.args.list.now c.loop-i.list c.loop-i.rest.now c.args.s.now c.loop-i-test.false c.loop-i.invariant (eqb-true (length c.loop-i.rest.now) 0 (sym c.if-is_empty.ensures));
      rest = halfway_rest c.args.count c.loop-i.i c.args.list.now c.loop-i.list c.loop-i.rest.now c.args.s.now c.loop-i.invariant;
    }

pub returns-else-is_empty : goal.returns-else-is_empty
returns-else-is_empty c =
    record {
      value = halfway_surplus c.args.count c.loop-i.i c.args.list.now c.loop-i.list c.loop-i.rest.now c.args.s.now c.loop-i-test.false c.loop-i.auto.i-end c.loop-i.invariant (eqb-false (length c.loop-i.rest.now) 0 (sym c.if-is_empty.ensures));
      rest = halfway_rest c.args.count c.loop-i.i c.args.list.now c.loop-i.list c.loop-i.rest.now c.args.s.now c.loop-i.invariant;
    }
