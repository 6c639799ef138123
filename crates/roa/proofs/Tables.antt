-- The table into which rows are read. Assumes nothing.
use Rattle.std.proofs.Common.{◌≡◌, ℕ, ◌+◌, ◌-◌, ◌<◌, ◌≤◌, List, [], ◌∷◌, ◌++◌, length, take, set, Some, None, Ok, Err, Option, Result, sym, ap, ◌∙◌, arith}
use Rattle.std.proofs.lemmas.List.{take_more_set, length-take-le}
use Rattle.fault.specs.declared.Report.{Report}
use Rattle.family.specs.declared.Family.{Family}
use Rattle.family.specs.declared.Family.TheVariants.{Ipv4, Ipv6}
use Rattle.element.specs.Reading.{Seen}
use Rattle.layout.specs.Expecting.{then_read}
use Rattle.roa.specs.declared.RoaRow.{RoaRow}
use Rattle.roa.specs.Rows.{row_in, row_step}
use Rattle.roa.specs.Most.{most_rows}

-- a row that was read is one row more
stepped :
    (f : Family) (base count : ℕ) (table : List RoaRow) (e : Seen) (o : Result RoaRow Report) → count ≤ length table → o ≡ row_in f (count - base) e
    → row_step f base (take count table) e ≡ then_read o (λ r. Ok (take count table ++ (r ∷ [])))
stepped f base count table e o few i =
    ap (λ (n : ℕ). then_read (row_in f (n - base) e) (λ r. Ok (take count table ++ (r ∷ [])))) (length-take-le count table few)
    ∙ ap (λ (x : Result RoaRow Report). then_read x (λ r. Ok (take count table ++ (r ∷ [])))) (sym i)

-- it stands after those before it
pub stored :
    (f : Family) (base count : ℕ) (table : List RoaRow) (e : Seen) (r : RoaRow) → count < length table → Ok r ≡ row_in f (count - base) e
    → Ok (take (count + 1) (set table count r)) ≡ row_step f base (take count table) e
stored f base count table e r few i =
    ap Ok (take_more_set table count r few) ∙ sym (stepped f base count table e (Ok r) (omega arith) i)

-- a row that is refused
pub unstored :
    (f : Family) (base count : ℕ) (table : List RoaRow) (e : Seen) (x : Report) → count ≤ length table → Err x ≡ row_in f (count - base) e
    → Err x ≡ row_step f base (take count table) e
unstored f base count table e x few i = sym (stepped f base count table e (Err x) few i)

pub under : (base count : ℕ) → base ≤ count → count - base < 256 → count < base + 256
under base count h k = omega arith

-- two families fill the table
pub in_table : {X : Type 0} (base count : ℕ) (table : List X) → base ≤ 256 → count < base + 256 → length table ≡ 512 → count < length table
in_table base count table h k size = omega arith

-- the table has room for two families
pub most_rows_most : (b : Option Family) → most_rows b ≤ 512
most_rows_most None = omega arith
most_rows_most (Some Ipv4) = omega arith
most_rows_most (Some Ipv6) = omega arith
