use Rattle.payload.proofs.Orders.{blank}
use Rattle.listing.proofs.Lists.{count_short, count_none, count_over, count_more, count_all}
use Rattle.listing.proofs.measure.Goals as goal

pub returns-then-room-head : goal.returns-then-room-head
returns-then-room-head c = count_short _ c.args.room c.head_size-head.result c.head_size-head.ensures c.if-room-head.true

pub loop-p-init : goal.loop-p-init
loop-p-init c = count_none _ c.args.room c.head_size-head.result c.head_size-head.ensures c.if-room-head.false

pub returns-then-left-size : goal.returns-then-left-size
returns-then-left-size c = count_over _ c.args.room c.loop-p.left c.loop-p.p-index c.line_size-size.result blank c.loop-p-test.true c.line_size-size.ensures c.loop-p.invariant c.if-left-size.true

pub loop-p-preserved : goal.loop-p-preserved
loop-p-preserved c = count_more _ c.args.room c.loop-p.left c.loop-p.p-index c.line_size-size.result blank c.loop-p-test.true c.line_size-size.ensures c.loop-p.invariant c.if-left-size.false

pub returns : goal.returns
returns c = count_all _ c.args.room c.loop-p.left c.loop-p.p-index c.loop-p-test.false c.loop-p.invariant
