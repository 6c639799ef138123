use Rattle.std.proofs.Common.{◌+◌, ◌≤◌, length, arith}
use Rattle.payload.proofs.Orders.{blank}
use Rattle.listing.proofs.Lists.{print_none, print_fits, print_more, print_all, part_put}
use Rattle.listing.proofs.write_list.Goals as goal

pub loop-p-init : goal.loop-p-init
loop-p-init c = print_none _ _ _ _ c.requires c.put_head-at.ensures.written

pub overflow_add-at : goal.overflow_add-at
overflow_add-at c =
    let fits : c.loop-p.at + c.put_line-at.result ≤ length c.loop-p.area =
    print_fits c.args.payloads.now _ _ _ c.loop-p.at c.loop-p.p-index c.put_line-at.result blank c.loop-p-test.true c.loop-p.invariant c.put_line-at.ensures.written.place in
    omega arith

pub loop-p-preserved : goal.loop-p-preserved
loop-p-preserved c =
    let l : c.loop-p.at ≤ length c.loop-p.area = omega (arith, c.loop-p.invariant.1) in
    print_more c.args.payloads.now _ _ _ _ c.loop-p.at c.loop-p.p-index c.put_line-at.result blank c.loop-p-test.true c.loop-p.invariant
    (part_put _ _ _ c.loop-p.at c.put_line-at.result l c.put_line-at.ensures.written) c.put_line-at.ensures.written.place

pub returns : goal.returns
returns c = print_all _ _ _ _ _ _ c.loop-p.p-index c.loop-p-test.false c.requires c.put_head-at.ensures.written c.loop-p.invariant
