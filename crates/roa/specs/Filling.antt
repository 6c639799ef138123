-- The table of a ROA's rows while those of a family are read into it. Assumes nothing.
use Rattle.std.specs.Prelude.{ℕ, List, take, drop, Ok, Result}
use Rattle.fault.specs.declared.Report.{Report}
use Rattle.family.specs.declared.Family.{Family}
use Rattle.element.specs.Reading.{Seen}
use Rattle.layout.specs.Expecting.{then_read}
use Rattle.roa.specs.declared.RoaRow.{RoaRow}
use Rattle.roa.specs.declared.family_rows.FamilyRows.{FamilyRows}
use Rattle.roa.specs.Rows.{row_step}

-- what is known of it: the family, how many rows stand before its own, the name of the table, the rows at its front and what stands past them
pub record Filled : Type 0 where
  pub family : Family
  pub base : ℕ
  pub name : ℕ
  pub rows : List RoaRow
  pub past : List RoaRow

-- as the program holds it
abbrev pub filled_in : FamilyRows → Filled
filled_in s = record { family = s.family; base = s.base; name = s.table.ghost_name; rows = take s.count s.table.now; past = drop s.count s.table.now }

-- one row more, in the place of what stood past the rows first
abbrev pub filled : Filled → List RoaRow → Filled
filled s rs = record s { rows = rs; past = drop 1 s.past }

abbrev pub fill_step : Filled → Seen → Result Filled Report
fill_step s e = then_read (row_step s.family s.base s.rows e) (λ rs. Ok (filled s rs))
