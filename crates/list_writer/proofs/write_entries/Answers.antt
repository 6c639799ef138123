use Rattle.std.proofs.Common.{length, arith}
use Rattle.list_writer.proofs.Joining.{laying_none, laying-room, laying-more, laying-all}
use Rattle.list_writer.proofs.write_entries.Goals as goal

pub loop-range-init : goal.loop-range-init
loop-range-init g c = laying_none g.P.WrittenResource.text c.args.list.now c.args.area.now c.args.at

pub write_entry-next-requires : goal.write_entry-next-requires
write_entry-next-requires g c =
    let m = laying-room g.P.WrittenResource.text c.args.list.now c.args.area.now c.args.at c.loop-range.range-index c.loop-range.next (length c.args.area.now) c.loop-range.area c.range-item.result
    c.requires c.loop-range-test.true c.range-item.is c.loop-range.invariant in
    omega (arith, m)

pub loop-range-preserved : goal.loop-range-preserved
loop-range-preserved g c =
    laying-more g.P.WrittenResource.text c.args.list.now c.args.area.now c.args.at c.loop-range.range-index c.loop-range.next c.write_entry-next.result c.loop-range.area c.write_entry-next.new.area c.range-item.result
    c.requires c.loop-range-test.true c.range-item.is c.loop-range.invariant c.write_entry-next.ensures.end c.write_entry-next.ensures.after

pub returns : goal.returns
returns g c = laying-all g.P.WrittenResource.text c.args.list.now c.args.area.now c.args.at c.loop-range.range-index c.loop-range.next c.loop-range.area c.loop-range-test.false c.loop-range.invariant
