-- The lines that calls of a log answer. Assumes nothing.
use Rattle.std.specs.Prelude.{ℕ, Bool, true, false, List, [], ◌∷◌, ◌++◌, length, Some, None, Ok, Err, codes, decimal, Option, Result}
use Rattle.fault.specs.declared.ElementFault.{ElementFault}
use Rattle.fault.specs.Numbers.{number_of}
use Rattle.fault.specs.Faults.{element_report}
use Rattle.hex_text.specs.Digits.{hex_text}
use Rattle.element.specs.Reading.{Seen, Octets}

-- where octets stand and how many they are, PLACE+LENGTH, before some other text
abbrev pub spot : ℕ → ℕ → List ℕ → List ℕ
spot place size more = decimal place ++ (codes "+" ++ (decimal size ++ more))

-- the number of a fault and its place
abbrev pub fault_line : ℕ → ℕ → List ℕ
fault_line number place = codes "element fault " ++ (decimal number ++ (codes " at " ++ (decimal place ++ codes "\n")))

-- `element ok TAG CONTENT REST`, or `element fault N at PLACE`
abbrev pub element_answer : Result (Seen × Octets) ElementFault → List ℕ
element_answer (Ok p) =
    codes "element ok " ++ (hex_text (p.0.tag ∷ []) ++ (codes " "
    ++ spot p.0.content_place (length p.0.content) (codes " "
    ++ spot p.1.place (length p.1.octets) (codes "\n"))))
element_answer (Err f) = fault_line (number_of (element_report f).rule) (element_report f).place

-- `digest HEX`, or `digest unknown`
abbrev pub digest_line : List ℕ → List ℕ
digest_line d = codes "digest " ++ (hex_text d ++ codes "\n")

abbrev pub digest_answer : Option (List ℕ) → List ℕ
digest_answer (Some d) = digest_line d
digest_answer None = codes "digest unknown\n"

-- `verdict yes`, or `verdict no`
abbrev pub verdict_answer : Bool → List ℕ
verdict_answer true = codes "verdict yes\n"
verdict_answer false = codes "verdict no\n"
