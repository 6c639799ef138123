use Rattle.std.proofs.Common.{◌≡◌, ◌∷◌, List, length, sym, ap, arith}
use Rattle.record.specs.Views.{record_seen, records_left}
use Rattle.record.specs.Format.{Entry, records}
use Rattle.record.proofs.Steps.{records_some, yields_none}
use Rattle.record.proofs.RecordsIterator.next.Goals as goal

pub returns-in_err-reading-clause-steps : goal.returns-in_err-reading-clause-steps
returns-in_err-reading-clause-steps c = yields_none c.args.self.now _ c.from_residual.ensures c.in_err-reading.ensures

pub returns-clause-steps : goal.returns-clause-steps
returns-clause-steps c = records_some c.args.self.now.rest.now _ (sym c.in_ok-reading.ensures)

pub returns-clause-goes : goal.returns-clause-goes
returns-clause-goes c =
    let e : records c.args.self.now.rest.now ≡ record_seen c.in_ok-reading.reading.value ∷ records c.in_ok-reading.reading.rest.now = records_some c.args.self.now.rest.now _ (sym c.in_ok-reading.ensures) in
    record { on = λ _. (tt, tt, omega (arith, ap length e)); keeps = tt; rests = λ _. tt }
