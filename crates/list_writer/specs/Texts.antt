-- The octets of a list of resources, and what writing it answers (RFC 3779 2.2.3.6 and 3.2.3.4). Assumes nothing.
use Rattle.std.specs.Prelude.{ℕ, cond, List, Err, Result}
use Rattle.std.specs.List.{flat_map}
use Rattle.fault.specs.declared.Rule.{Rule}
use Rattle.fault.specs.declared.Rule.TheVariants.{Order}
use Rattle.element.specs.Lengths.{encoded}
use Rattle.element.specs.Writing.{room_for}
use Rattle.ranges.specs.declared.Range.{Range}
use Rattle.ranges.specs.Walks.{lawful}

-- the entries of a list one after the other, where `text` has the octets of one
unfoldable pub entries_text : {P : Type 0} → (Range P → List ℕ) → List (Range P) → List ℕ
entries_text text rs = flat_map text rs

-- the element of a list: a SEQUENCE of its entries
unfoldable pub list_text : {P : Type 0} → (Range P → List ℕ) → List (Range P) → List ℕ
list_text text rs = encoded 48 (entries_text text rs)

-- writing a list into an area of so many octets: it has to be lawful, and to have room
abbrev pub list_written : {P : Type 0} → (P → ℕ) → (Range P → List ℕ) → List (Range P) → ℕ → Result ℕ Rule
list_written rank text rs room = cond (lawful rank rs) (room_for (list_text text rs) room) (Err Order)
