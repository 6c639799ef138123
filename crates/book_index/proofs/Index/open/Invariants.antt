use Rattle.record.specs.Views.{records_left}
use Rattle.book_index.proofs.Lists.{Gives}
use Rattle.book_index.proofs.Index.open.Given as goal

abbrev pub invariant-loop-found : goal.invariant-loop-found
invariant-loop-found l = Gives l.index (records_left l.found-iterator) l.book
