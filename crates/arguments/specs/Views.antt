-- What the readers answer, as lists in place of references. Assumes nothing.
use Rattle.std.specs.Prelude.{ℕ, List, Ok, Err, Result}
use Rattle.pieces.specs.Views.{left as comingPieces}
use Rattle.arguments.specs.declared.Why.{Why}
use Rattle.arguments.specs.declared.Words.{Words}
use Rattle.arguments.specs.declared.Octets.{Octets}
use Rattle.arguments.specs.declared.Octets.TheVariants.{Digits, Path}
use Rattle.arguments.specs.declared.OracleWord.{OracleWord}
use Rattle.arguments.specs.declared.OracleWord.TheVariants.{Scheme, Book}
use Rattle.arguments.specs.Arguments.{Said, digits, path, Source, scheme, book}

-- the words that are still to come
abbrev pub left : Words → List (List ℕ)
left w = comingPieces w.pieces

abbrev pub said : Octets → Said
said (Digits d) = digits d.now
said (Path p) = path p.now

abbrev pub sourced : OracleWord → Source
sourced Scheme = scheme
sourced (Book o) = book (said o)

-- an answer beside the words that are left after it
abbrev pub beside : {X A : Type 0} → (X → A) → Result X Why → List (List ℕ) → Result (A × List (List ℕ)) Why
beside f (Ok x) ws = Ok (f x, ws)
beside f (Err why) ws = Err why

-- an answer alone
abbrev pub seen : {X A : Type 0} → (X → A) → Result X Why → Result A Why
seen f (Ok x) = Ok (f x)
seen f (Err why) = Err why
