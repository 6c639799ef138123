-- A content that is a row of elements, read one after the other until it ends. Assumes nothing.
use Rattle.std.specs.Prelude.{ℕ, zero, suc, cond, length, Ok, Err, Result, ◌==◌}
use Rattle.fault.specs.declared.Report.{Report}
use Rattle.fault.specs.declared.ElementFault.{ElementFault}
use Rattle.fault.specs.Faults.{element_report}
use Rattle.element.specs.Reading.{Seen, Octets, read_of}
use Rattle.layout.specs.Expecting.{then_read}

-- what is known so far, `S`, grows by one element at a time, or a fault ends the reading
module _ {S : Type 0} (step : S → Seen → Result S Report) where
  -- an element that was read, and those after it
  abbrev pub on_row : (S → Octets → Result S Report) → S → Result (Seen × Octets) ElementFault → Result S Report
  on_row more s (Err f) = Err (element_report f)
  on_row more s (Ok p) = then_read (step s p.0) (λ t. more t p.1)

  -- the elements of some octets, so many at most; an element takes octets, so as many as there are octets are all
  unfoldable pub rows_within : ℕ → S → Octets → Result S Report
  rows_within zero s q = Ok s
  rows_within (suc n) s q = cond (length q.octets == 0) (Ok s) (on_row (rows_within n) s (read_of q.octets q.place))

  -- the elements of some octets, up to their end
  unfoldable pub rows_of : S → Octets → Result S Report
  rows_of s q = rows_within (length q.octets) s q
