-- The entries of a list of resources, read one after the other (RFC 3779 2.2.3.6 and 3.2.3.4). Assumes nothing.
use Rattle.std.specs.Prelude.{ℕ, zero, suc, ◌+◌, Bool, true, cond, List, [], ◌∷◌, ◌++◌, length, drop, Some, None, Ok, Err, Option, Result, ◌==◌, nat_lt}
use Rattle.fault.specs.declared.Rule.TheVariants.{Order, Count}
use Rattle.fault.specs.declared.Layer.TheVariants.{Set}
use Rattle.fault.specs.declared.Report.{Report}
use Rattle.fault.specs.declared.ElementFault.{ElementFault}
use Rattle.fault.specs.Faults.{element_report}
use Rattle.element.specs.Reading.{Seen, Octets, read_of}
use Rattle.ranges.specs.declared.Range.{Range}
use Rattle.layout.specs.Expecting.{broken, then_read}

-- what is left of a reading: the ranges that were read, and how it ended
abbrev pub Reading : Type 0 → Type 0
Reading P = List (Range P) × Result (Unit {0}) Report

module _ {P : Type 0} (rank : P → ℕ) where
  -- a point is missing between the range before, if there is one, and this one
  abbrev pub is_apart : Option (Range P) → Range P → Bool
  is_apart None r = true
  is_apart (Some b) r = nat_lt (rank b.last + 1) (rank r.first)

  -- a range that was read has to stand after the one before it; the fault is at its tag, once it is read
  abbrev pub ordered : Option (Range P) → ℕ → Result (Range P) Report → Result (Range P) Report
  ordered before place (Err f) = Err f
  ordered before place (Ok r) = cond (is_apart before r) (Ok r) (broken Set Order place)

module _ {P : Type 0} (rank : P → ℕ) (entry : Seen → Result (Range P) Report) where
  -- the range of an entry, in its order
  abbrev pub entry_in : Option (Range P) → Seen → Result (Range P) Report
  entry_in before e = ordered rank before e.place (entry e)

  -- the fault of an entry past the last that a list may have: it is one too many, unless it breaks another rule at its own tag
  abbrev pub past_last : ℕ → Result (Range P) Report → Report
  past_last place (Err f) = cond (nat_lt place f.place) record { rule = Count; place = place; layer = Set } f
  past_last place (Ok r) = record { rule = Count; place = place; layer = Set }

  -- the range of an entry where a list has room for so many more
  abbrev pub entry_with : ℕ → Option (Range P) → Seen → Result (Range P) Report
  entry_with zero before e = Err (past_last e.place (entry_in before e))
  entry_with (suc room) before e = entry_in before e

  -- an entry that was read, and those after it
  abbrev pub after : (Option (Range P) → Octets → Reading P) → Octets → Result (Range P) Report → Reading P
  after more q (Err f) = ([], Err f)
  after more q (Ok r) = (r ∷ (more (Some r) q).0, (more (Some r) q).1)

  abbrev pub on_read : (Option (Range P) → Octets → Reading P) → ℕ → Option (Range P) → Result (Seen × Octets) ElementFault → Reading P
  on_read more room before (Err f) = ([], Err (element_report f))
  on_read more room before (Ok p) = after more p.1 (entry_with room before p.0)

  -- where there is room for none, none is read
  abbrev pub no_more : Option (Range P) → Octets → Reading P
  no_more before q = ([], Ok tt)

  -- the entries in some octets, where a list has room for so many more
  unfoldable pub entries_of : ℕ → Option (Range P) → Octets → Reading P
  entries_of zero before q =
      cond (length q.octets == 0) ([], Ok tt) (on_read no_more zero before (read_of q.octets q.place))
  entries_of (suc room) before q =
      cond (length q.octets == 0) ([], Ok tt) (on_read (entries_of room) (suc room) before (read_of q.octets q.place))

-- how many ranges were read, or the fault that ended the reading
abbrev pub counted : {P : Type 0} → Reading P → Result ℕ Report
counted r = then_read r.1 (λ _. Ok (length r.0))

-- what a table holds: the ranges that were read, and then what stood there before
abbrev pub kept : {P : Type 0} → List (Range P) → List (Range P) → List (Range P)
kept rs table = rs ++ drop (length rs) table
