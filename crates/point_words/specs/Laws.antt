-- What the text of a point and the reading of a word are to each other, for any kind of points. Assumes nothing.
use Rattle.std.specs.Prelude.{◌≡◌, ℕ, true, List, Some, Option}
use Rattle.pieces.specs.Marks.{lacking}

-- `proper` holds of every value that code can have, `folded` is a word without what reading does not tell apart
module _ {P : Type 0} (proper : P → Type 0) (text : P → List ℕ) (folded : List ℕ → List ℕ) (reads : List ℕ → Option P) where
  pub record WordLaws : Type 0 where
    -- the text of a point is read as the point
    pub text_read : (x : P) → proper x → reads (text x) ≡ Some x
    -- a word that is read as a point is its text, and holds neither of the marks of a list
    pub read_text : (w : List ℕ) (x : P) → reads w ≡ Some x → proper x × (folded w ≡ text x) × (lacking 44 w ≡ true) × (lacking 45 w ≡ true)
    -- what reading does not tell apart
    pub blind : (w : List ℕ) → reads (folded w) ≡ reads w
