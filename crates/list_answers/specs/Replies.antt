-- The lines that calls on lists of resources answer. Assumes nothing.
use Rattle.std.specs.Prelude.{ℕ, cond, List, ◌++◌, Some, None, Ok, Err, codes, decimal, Option, Result, nat_lt}
use Rattle.fault.specs.declared.Rule.{Rule}
use Rattle.fault.specs.declared.Report.{Report}
use Rattle.fault.specs.Numbers.{number_of, word_of}
use Rattle.hex_text.specs.Digits.{hex_text}
use Rattle.list_text.specs.Lists.{list_text}
use Rattle.list_writer.specs.Texts.{list_written, list_text as octets_text}
use Rattle.ranges.specs.declared.Range.{Range}
use Rattle.ranges.specs.Joins.{joined, join_answer}

-- `CALL refused N`
abbrev pub refusal : List ℕ → Rule → List ℕ
refusal call rule = call ++ (codes " refused " ++ (decimal (number_of rule) ++ codes "\n"))

-- `join ok LIST`
abbrev pub joined_line : {P : Type 0} → (P → List ℕ) → List (Range P) → List ℕ
joined_line text list = codes "join ok " ++ (list_text text list ++ codes "\n")

-- by what the call answered, and the list that it wrote
abbrev pub joined_or : {P : Type 0} → (P → List ℕ) → Result ℕ Rule → List (Range P) → List ℕ
joined_or text (Ok n) list = joined_line text list
joined_or text (Err rule) list = refusal (codes "join") rule

-- what `join` answers with an area of so many ranges
abbrev pub join_reply : {P : Type 0} → (P → ℕ) → (P → List ℕ) → List (Range P) → List (Range P) → ℕ → List ℕ
join_reply rank text xs ys room = joined_or text (join_answer rank xs ys room) (joined rank xs ys)

-- `read fault N at PLACE in LAYER`
abbrev pub fault_line : ℕ → ℕ → List ℕ → List ℕ
fault_line number place layer = codes "read fault " ++ (decimal number ++ (codes " at " ++ (decimal place ++ (codes " in " ++ (layer ++ codes "\n")))))

abbrev pub fault_answer : Report → List ℕ
fault_answer r = fault_line (number_of r.rule) r.place (word_of r.layer)

-- `read ok`, or the first fault
abbrev pub read_reply : {V : Type 0} → Result V Report → List ℕ
read_reply (Ok v) = codes "read ok\n"
read_reply (Err r) = fault_answer r

-- `write ok HEX`
abbrev pub written_line : List ℕ → List ℕ
written_line octets = codes "write ok " ++ (hex_text octets ++ codes "\n")

-- by what the call answered, and the text that it wrote
abbrev pub written_or : Result ℕ Rule → List ℕ → List ℕ
written_or (Ok n) octets = written_line octets
written_or (Err rule) octets = refusal (codes "write") rule

-- what `write` answers with an area of so many octets
abbrev pub write_reply : {P : Type 0} → (P → ℕ) → (Range P → List ℕ) → List (Range P) → ℕ → List ℕ
write_reply rank text xs room = written_or (list_written rank text xs room) (octets_text text xs)

-- the octets of the area that a call asks for; 256 entries of 40 octets and a header of four are the most that a list takes
abbrev pub room_given : Option ℕ → ℕ
room_given None = 10244
room_given (Some n) = cond (nat_lt n 10244) n 10244
