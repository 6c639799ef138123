-- A list of ranges as a word: its text, what a word is read as, and when a word is the text of a list. Assumes nothing.
use Rattle.std.specs.Prelude.{◌≡◌, ℕ, cond, List, [], ◌∷◌, ◌++◌, map, Some, None, codes, Option}
use Rattle.std.specs.Str.{bytes_eq}
use Rattle.pieces.specs.Marks.{pieces_of, joined, and_then, read_next, at_end}
use Rattle.ranges.specs.declared.Range.{Range}
use Rattle.ranges.specs.Sets.{Fit}

-- something in front of a list, where both are there
abbrev pub consed : {A : Type 0} → Option A → Option (List A) → Option (List A)
consed None rest = None
consed (Some a) None = None
consed (Some a) (Some rest) = Some (a ∷ rest)

module _ {P : Type 0} (reads : List ℕ → Option P) where
  -- the two ends of a range
  abbrev pub ends_of : List (List ℕ) → Option (Range P)
  ends_of ws = and_then (read_next reads ws) (λ a. and_then (read_next reads a.1) (λ b. at_end b.1 (record { first = a.0; last = b.0 })))

  -- FIRST-LAST
  abbrev pub range_of : List ℕ → Option (Range P)
  range_of w = ends_of (pieces_of 45 w)

  -- ranges, where each word is one
  abbrev pub all_ranges : List (List ℕ) → Option (List (Range P))
  all_ranges [] = Some []
  all_ranges (w ∷ ws) = consed (range_of w) (all_ranges ws)

  -- `none`, or ranges with a comma between each two
  abbrev pub list_of : List ℕ → Option (List (Range P))
  list_of w = cond (bytes_eq w (codes "none")) (Some []) (all_ranges (pieces_of 44 w))

module _ {P : Type 0} (text : P → List ℕ) where
  abbrev pub range_text : Range P → List ℕ
  range_text r = text r.first ++ (45 ∷ text r.last)

  -- further ranges, each after a comma
  abbrev pub tail_text : List (Range P) → List ℕ
  tail_text [] = []
  tail_text (r ∷ rs) = 44 ∷ (range_text r ++ tail_text rs)

  abbrev pub list_text : List (Range P) → List ℕ
  list_text [] = codes "none"
  list_text (r ∷ rs) = joined 44 (map range_text (r ∷ rs))

-- a word is a list's text but for what the kind of points does not tell apart: `folded` leaves that out
module _ {P : Type 0} (text : P → List ℕ) (folded : List ℕ → List ℕ) where
  pub record RangeWord (w : List ℕ) (r : Range P) : Type 0 where
    pub low : List ℕ
    pub high : List ℕ
    pub whole : w ≡ low ++ (45 ∷ high)
    pub from : folded low ≡ text r.first
    pub to : folded high ≡ text r.last

  -- each word a range
  abbrev pub RangeWords : List (List ℕ) → List (Range P) → Type 0
  RangeWords [] [] = Unit {0}
  RangeWords [] (r ∷ rs) = ⊥
  RangeWords (w ∷ ws) [] = ⊥
  RangeWords (w ∷ ws) (r ∷ rs) = RangeWord w r × RangeWords ws rs

  abbrev pub ListWord : List ℕ → List (Range P) → Type 0
  ListWord w [] = w ≡ codes "none"
  ListWord w (r ∷ rs) = (ws : List (List ℕ)) × (w ≡ joined 44 ws) × RangeWords ws (r ∷ rs)

  -- the answer is a list exactly where the word is the list's text, and its points are points of the kind
  abbrev pub ReadsList : (P → Type 0) → List ℕ → Option (List (Range P)) → Type 0
  ReadsList proper w answer =
      (l : List (Range P)) → (answer ≡ Some l → Fit proper l × ListWord w l) × (Fit proper l × ListWord w l → answer ≡ Some l)
