use Rattle.std.proofs.Common.{arith}
use Rattle.list_writer.proofs.Joining.{count_none, count_more, count_all}
use Rattle.list_writer.proofs.entries_size.Goals as goal

pub loop-range-init : goal.loop-range-init
loop-range-init g c = count_none g.P.WrittenResource.text c.args.list.now

pub overflow_add-size : goal.overflow_add-size
overflow_add-size g c =
    let m = count_more g.P.WrittenResource.text g.met.P.WrittenResource.entry_laws.short c.args.list.now c.loop-range.range-index c.loop-range.size c.entry_size-size.result c.range-item.result
    c.loop-range-test.true c.range-item.is c.entry_size-size.ensures c.loop-range.invariant in
    omega (arith, m.1, c.loop-range-test.true, c.requires)

pub loop-range-preserved : goal.loop-range-preserved
loop-range-preserved g c =
    count_more g.P.WrittenResource.text g.met.P.WrittenResource.entry_laws.short c.args.list.now c.loop-range.range-index c.loop-range.size c.entry_size-size.result c.range-item.result
    c.loop-range-test.true c.range-item.is c.entry_size-size.ensures c.loop-range.invariant

pub returns : goal.returns
returns g c =
    let m = count_all g.P.WrittenResource.text c.args.list.now c.loop-range.range-index c.loop-range.size c.loop-range-test.false c.loop-range.auto.range-index-end c.requires c.loop-range.invariant in
    record { value = m.0; most = m.1 }
