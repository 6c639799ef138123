-- What writing an element answers and leaves. Assumes nothing.
use Rattle.std.specs.Prelude.{◌≡◌, ℕ, ◌+◌, cond, List, [], ◌++◌, length, drop, Ok, Err, Result, nat_lt}
use Rattle.fault.specs.declared.Rule.{Rule}
use Rattle.fault.specs.declared.Rule.TheVariants.{Form, Area}
use Rattle.content.specs.Tags.{kind_of}
use Rattle.content.specs.Grammar.{ContentOf}
use Rattle.element.specs.Lengths.{longest, header, encoded}
use Rattle.element.specs.Reading.{read_of}

-- the octets of a text that is to stand in an area of so many octets, or the rule that refuses it
abbrev pub room_for : List ℕ → ℕ → Result ℕ Rule
room_for text room = cond (nat_lt room (length text)) (Err Area) (Ok (length text))

-- writing a header: no element has a content past the longest, and a header takes its room
abbrev pub header_written : ℕ → ℕ → ℕ → Result ℕ Rule
header_written tag size room = cond (nat_lt longest size) (Err Form) (room_for (header tag size) room)

-- writing an element, likewise
abbrev pub element_written : ℕ → List ℕ → ℕ → Result ℕ Rule
element_written tag content room = cond (nat_lt longest (length content)) (Err Form) (room_for (encoded tag content) room)

-- what an area holds after a text was to be written at its front: the text and then what stood there before,
-- or, where it was refused, what stood there before
abbrev pub laid : Result ℕ Rule → List ℕ → List ℕ → List ℕ
laid (Ok n) text area = text ++ drop (length text) area
laid (Err e) text area = area

-- octets that read as this element with nothing over, if the content has its form
abbrev pub ReadsBack : ℕ → List ℕ → List ℕ → Type 0
ReadsBack tag content s =
    ContentOf (kind_of tag) content → (at : ℕ)
    → read_of s at ≡ Ok (
      record { tag = tag; place = at; content = content; content_place = at + length (header tag (length content)) },
      record { octets = []; place = at + length s },
    )
