-- The ranges of each kind that an entry says, from the numbers of its ends. Assumes nothing.
use Rattle.std.specs.Prelude.{ℕ, Ok, Err, Result}
use Rattle.fault.specs.declared.Report.{Report}
use Rattle.element.specs.Reading.{Seen}
use Rattle.points.specs.declared.V4.{V4}
use Rattle.points.specs.declared.V6.{V6}
use Rattle.points.specs.Ranks.{v6_of}
use Rattle.ranges.specs.declared.Range.{Range}
use Rattle.points.specs.declared.Asn.{Asn}
use Rattle.entries.specs.Addresses.{address_entry}
use Rattle.entries.specs.Numbers.{number_entry}

abbrev pub v4_of : ℕ → V4
v4_of n = record { word = n }

-- a range by its two numbers
abbrev pub between : {P : Type 0} → (ℕ → P) → Result (ℕ × ℕ) Report → Result (Range P) Report
between point (Ok p) = Ok record { first = point p.0; last = point p.1 }
between point (Err f) = Err f

abbrev pub v4_entry : Seen → Result (Range V4) Report
v4_entry e = between v4_of (address_entry 32 e)

abbrev pub v6_entry : Seen → Result (Range V6) Report
v6_entry e = between v6_of (address_entry 128 e)

abbrev pub asn_of : ℕ → Asn
asn_of n = record { number = n }

abbrev pub asn_entry : Seen → Result (Range Asn) Report
asn_entry e = between asn_of (number_entry e)
