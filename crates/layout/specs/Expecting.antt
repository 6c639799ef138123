-- What a layout wants of the elements in a content, and the fault where it does not find it. Assumes nothing.
use Rattle.std.specs.Prelude.{ℕ, cond, length, Ok, Err, Result, ◌==◌}
use Rattle.fault.specs.declared.Rule.{Rule}
use Rattle.fault.specs.declared.Rule.TheVariants.{Structure}
use Rattle.fault.specs.declared.Layer.{Layer}
use Rattle.fault.specs.declared.Report.{Report}
use Rattle.fault.specs.declared.ElementFault.{ElementFault}
use Rattle.fault.specs.Faults.{element_report}
use Rattle.element.specs.declared.part.Element.{Element}
use Rattle.element.specs.declared.part.Part.{Part}
use Rattle.element.specs.Reading.{Seen, Octets, seen, octets_of, read_of}

-- a result as a reader of definitions sees it: its value by a view, its fault by its report
abbrev pub told_by : {V W E : Type 0} → (E → Report) → (V → W) → Result V E → Result W Report
told_by told view (Ok v) = Ok (view v)
told_by told view (Err e) = Err (told e)

-- one reading after another: the first fault decides
abbrev pub then_read : {V W : Type 0} → Result V Report → (V → Result W Report) → Result W Report
then_read (Ok v) k = k v
then_read (Err e) k = Err e

-- a broken rule at a place, as a layer reports it
abbrev pub broken : {V : Type 0} → Layer → Rule → ℕ → Result V Report
broken l r p = Err record { rule = r; place = p; layer = l }

abbrev pub part_of : Element × Part → Seen × Octets
part_of p = (seen p.0, octets_of p.1)

-- an element that was read, of any tag
abbrev pub any_tag : Result (Seen × Octets) ElementFault → Result (Seen × Octets) Report
any_tag (Err f) = Err (element_report f)
any_tag (Ok p) = Ok p

-- the next element of a content, of any tag; where none is left it is missing at the content's end
abbrev pub next_of : Layer → Octets → Result (Seen × Octets) Report
next_of l q = cond (length q.octets == 0) (broken l Structure q.place) (any_tag (read_of q.octets q.place))

-- the content of an element, with its place
abbrev pub inside : Seen → Octets
inside e = record { octets = e.content; place = e.content_place }

-- an element that was read has to have this tag
abbrev pub tagged : Layer → ℕ → Result (Seen × Octets) ElementFault → Result (Seen × Octets) Report
tagged l tag (Err f) = Err (element_report f)
tagged l tag (Ok p) = cond (p.0.tag == tag) (Ok p) (broken l Structure p.0.place)

-- the next element of a content has to have this tag; where none is left it is missing at the content's end
abbrev pub expect_of : Layer → ℕ → Octets → Result (Seen × Octets) Report
expect_of l tag q = cond (length q.octets == 0) (broken l Structure q.place) (tagged l tag (read_of q.octets q.place))

-- an element that was read is one too many
abbrev pub surplus : Layer → Result (Seen × Octets) ElementFault → Result (Unit {0}) Report
surplus l (Err f) = Err (element_report f)
surplus l (Ok p) = broken l Structure p.0.place

-- a content has to end here
abbrev pub end_of : Layer → Octets → Result (Unit {0}) Report
end_of l q = cond (length q.octets == 0) (Ok tt) (surplus l (read_of q.octets q.place))
