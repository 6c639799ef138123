-- What writing a text answers and leaves. Assumes nothing.
use Rattle.std.specs.Prelude.{◌≡◌, ℕ, ◌+◌, cond, List, ◌++◌, length, drop, Ok, Err, Result, nat_lt}
use Rattle.std.proofs.lemmas.List.Edits.{sets}
use Rattle.fault.specs.declared.Rule.{Rule}
use Rattle.fault.specs.declared.Rule.TheVariants.{Area}
use Rattle.listing.specs.declared.writer.Writer.{Writer}

-- the octets of a text that is to stand in an area of so many octets, or the rule that refuses it
abbrev pub room_for : List ℕ → ℕ → Result ℕ Rule
room_for text room = cond (nat_lt room (length text)) (Err Area) (Ok (length text))

-- what an area holds after a text was to be written at its front: the text and then what stood there before,
-- or, where it was refused, what stood there before
abbrev pub laid : Result ℕ Rule → List ℕ → List ℕ → List ℕ
laid (Ok n) text area = text ++ drop (length text) area
laid (Err e) text area = area

-- a text is written from a place on, as far as the area goes, and the place after it is known
pub record Written (text area : List ℕ) (at : ℕ) (after : List ℕ) (next : ℕ) : Type 0 where
  pub octets : after ≡ sets area at text
  pub place : next ≡ at + length text

-- a writer wrote a text, and stands after it
abbrev pub Writes : List ℕ → Writer → Writer → Type 0
Writes text s t = Written text s.area.now s.at t.area.now t.at

-- a writer writes into the area that it was made with
abbrev pub SameArea : Writer → Writer → Type 0
SameArea s t = t.area.ghost_name ≡ s.area.ghost_name
