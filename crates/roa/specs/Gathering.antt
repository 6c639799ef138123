-- The table of a ROA's rows while the families are read into it. Assumes nothing.
use Rattle.std.specs.Prelude.{ℕ, ◌-◌, List, length, drop, Ok, Result}
use Rattle.fault.specs.declared.Report.{Report}
use Rattle.element.specs.Reading.{Seen}
use Rattle.layout.specs.Expecting.{then_read}
use Rattle.roa.specs.declared.RoaRow.{RoaRow}
use Rattle.roa.specs.declared.all_rows.AllRows.{AllRows}
use Rattle.roa.specs.Roas.{Known, known_seen, family_step}

-- what is known of it: the last family and the rows, the name of the table, and what stands past the rows in it
pub record Gathered : Type 0 where
  pub known : Known
  pub name : ℕ
  pub past : List RoaRow

-- as the program holds it
abbrev pub gathered_in : AllRows → Gathered
gathered_in s = record { known = known_seen s.table.now (s.last, s.count); name = s.table.ghost_name; past = drop s.count s.table.now }

-- the rows of a family more, in the place of what stood past the rows first
abbrev pub gathered : Gathered → Known → Gathered
gathered s k = record s { known = k; past = drop (length k.rows - length s.known.rows) s.past }

abbrev pub gather_step : Gathered → Seen → Result Gathered Report
gather_step s e = then_read (family_step s.known e) (λ k. Ok (gathered s k))
