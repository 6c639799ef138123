-- The words of a line: the pieces between single spaces. Assumes nothing.
use Rattle.std.specs.Prelude.{ℕ, List, [], ◌∷◌, Ok, Err, Result}
use Rattle.pieces.specs.Marks.{pieces_of, joined}
use Rattle.arguments.specs.declared.Why.{Why}
use Rattle.arguments.specs.declared.Why.TheVariants.{EmptyWord, MissingWord, ExtraWord}

-- two spaces in a row have an empty word between them
abbrev pub words_of : List ℕ → List (List ℕ)
words_of s = pieces_of 32 s

-- words with a space between each two
abbrev pub spaced : List (List ℕ) → List ℕ
spaced ws = joined 32 ws

-- the next word and those after it: a word is not empty
abbrev pub take_word : List (List ℕ) → Result (List ℕ × List (List ℕ)) Why
take_word [] = Err MissingWord
take_word ([] ∷ ws) = Err EmptyWord
take_word ((c ∷ w) ∷ ws) = Ok (c ∷ w, ws)

-- no word may follow
abbrev pub ended : List (List ℕ) → Result (Unit {0}) Why
ended [] = Ok tt
ended ([] ∷ ws) = Err EmptyWord
ended ((c ∷ w) ∷ ws) = Err ExtraWord
