use Rattle.book_index.proofs.Lists.{gives_next, gives_all}
use Rattle.record.specs.Views.{records_left}
use Rattle.book_index.proofs.Index.open.Goals as goal

pub loop-found-preserved : goal.loop-found-preserved
loop-found-preserved c =
    gives_next c.loop-found.index c.list.new.self c.in-Some.found (records_left c.loop-found.found-iterator) (records_left c.next.new.self) c.args.book.now
    c.in_ok-list.ensures c.in-Some.ensures.steps c.loop-found.invariant

pub returns : goal.returns
returns c = gives_all c.loop-found.index (records_left c.loop-found.found-iterator) c.args.book.now c.in-None.ensures.steps.0 c.loop-found.invariant
