-- What a text that is read, and one that is not, is. Assumes nothing.
use Rattle.std.specs.Prelude.{◌≡◌, ℕ, ◌+◌, ◌^◌, ◌<◌, ◌≤◌, true, ◌⊎◌, List, [], ◌++◌, length, Ok, Err, Result, ◌≢◌}
use Rattle.std.specs.List.{AllByRecursion}
use Rattle.payload.specs.declared.Payload.{Payload}
use Rattle.payload.specs.Order.{lawful, Rising}
use Rattle.listing.specs.Laws.{Lawful}
use Rattle.listing.specs.Texts.{line_text, lines_text, head_text, list_text}
use Rattle.listing_reader.specs.declared.BadLine.{BadLine}
use Rattle.listing_reader.specs.Lines.{fits_max, comes_after, list_of}

-- a payload of a lawful prefix and a lawful maximum, each part of which fits its type
abbrev pub Good : Payload → Type 0
Good p = Lawful p × (fits_max p ≡ true)

-- the text of a list of good payloads is read as that list
abbrev pub ReadsBack : Type 0
ReadsBack =
    (room : ℕ) (ps : List Payload) → AllByRecursion Good ps → Rising ps → length ps ≤ room → length ps < 2 ^ 40 → list_of room (list_text ps) ≡ (ps, Ok tt)

-- a payload of a lawful prefix and a lawful maximum
abbrev pub Whole : Payload → Type 0
Whole p = (lawful p.prefix ≡ true) × (fits_max p ≡ true)

-- after the lines of these payloads no line of a good payload follows that comes after them
abbrev pub NoLine : List Payload → List ℕ → Type 0
NoLine ps rest = (p : Payload) (u : List ℕ) → Good p → comes_after ps p ≡ true → rest ≢ line_text p ++ u

-- the first line is none: it does not say a number of payloads that there is room for
abbrev pub NoHead : ℕ → List ℕ → Type 0
NoHead room s = (n : ℕ) (u : List ℕ) → n < 2 ^ 40 → n ≤ room → s ≢ head_text n ++ u

-- how a text goes on after the lines of these payloads, where the first line said so many
abbrev pub Stuck : ℕ → List Payload → List ℕ → Type 0
Stuck n ps rest = ((length ps ≡ n) × (rest ≢ [])) ⊎ ((length ps < n) × NoLine ps rest)

-- the first wrong line stands after the first line and the lines of the payloads that were read
pub record WrongAt (s : List ℕ) (ps : List Payload) (bad : BadLine) : Type 0 where
  pub count : ℕ
  pub rest : List ℕ
  pub text : s ≡ head_text count ++ (lines_text ps ++ rest)
  pub line : bad.line ≡ length ps + 2
  pub stuck : Stuck count ps rest

-- the text is the printed text of what was read; or else the line is the first that is wrong
abbrev pub Told : ℕ → List ℕ → List Payload → Result (Unit {0}) BadLine → Type 0
Told room s ps (Ok u) = s ≡ list_text ps
Told room s ps (Err bad) = ((bad.line ≡ 1) × (ps ≡ []) × NoHead room s) ⊎ WrongAt s ps bad

-- what was read is in order, its payloads are lawful, and the text tells it
pub record Tells (room : ℕ) (s : List ℕ) (ps : List Payload) (r : Result (Unit {0}) BadLine) : Type 0 where
  pub rising : Rising ps
  pub whole : AllByRecursion Whole ps
  pub told : Told room s ps r

abbrev pub ReadsOnly : Type 0
ReadsOnly = (room : ℕ) (s : List ℕ) → Tells room s (list_of room s).0 (list_of room s).1
