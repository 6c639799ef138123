use Rattle.pieces.proofs.Splits.{past_some, past_none}
use Rattle.pieces.proofs.past.Goals as goal

pub returns-then-end-s : goal.returns-then-end-s
returns-then-end-s c = λ m. past_some m c.args.s.now c.args.end c.if-end-s.true

pub returns-else-end-s : goal.returns-else-end-s
returns-else-end-s c = λ m. past_none m c.args.s.now c.args.end c.if-end-s.false
