-- Lists of ranges as sets of points (RFC 3779 2.2.3.6 and 3.2.3.4). `rank` numbers the points in their order, and `fits` holds
-- of the values that a point can have. Assumes nothing.
use Rattle.std.specs.Prelude.{◌≡◌, ℕ, ◌+◌, ◌<◌, ◌≤◌, Bool, ◌⊎◌, List, [], ◌∷◌, length, Ok, Err, Decides, Result}
use Rattle.std.specs.List.{AllByRecursion}
use Rattle.fault.specs.declared.Rule.{Rule}
use Rattle.fault.specs.declared.Rule.TheVariants as rule
use Rattle.ranges.specs.declared.Range.{Range}

-- a list has 1 to 256 ranges
abbrev pub Counted : {P : Type 0} → List (Range P) → Type 0
Counted rs = (0 < length rs) × (length rs ≤ 256)

-- every end of every range is a value that a point can have
abbrev pub Fit : {P : Type 0} → (P → Type 0) → List (Range P) → Type 0
Fit fits rs = AllByRecursion (λ r. fits r.first × fits r.last) rs

module _ {P : Type 0} (rank : P → ℕ) where
  -- x is a point of the range, whose ends both belong to it (RFC 3779 2.2.3.9 and 3.2.3.8)
  abbrev pub Between : P → Range P → Type 0
  Between x r = (rank r.first ≤ rank x) × (rank x ≤ rank r.last)

  -- x is a point of the list
  abbrev pub In : P → List (Range P) → Type 0
  In x [] = ⊥
  In x (r ∷ rs) = Between x r ⊎ In x rs

  -- no range is empty, and between each range and every later one a point is missing: the ranges ascend, and no two of them
  -- overlap or touch (RFC 3779 2.2.3.6 and 3.2.3.4)
  abbrev pub Ascending : List (Range P) → Type 0
  Ascending [] = Unit {0}
  Ascending (r ∷ rs) = (rank r.first ≤ rank r.last) × AllByRecursion (λ s. rank r.last + 1 < rank s.first) rs × Ascending rs

  -- a list as this validator takes it
  abbrev pub Lawful : List (Range P) → Type 0
  Lawful rs = Counted rs × Ascending rs

  -- every point of the one is a point of the other, as a certificate's resources are of its issuer's (RFC 3779 2.3 and 3.3)
  abbrev pub Within : List (Range P) → List (Range P) → Type 0
  Within inner outer = (x : P) → In x inner → In x outer

  -- what `within` answers: whether the one lies in the other, or that a list is not lawful
  abbrev pub WithinAnswer : List (Range P) → List (Range P) → Result Bool Rule → Type 0
  WithinAnswer inner outer (Ok b) = (Lawful inner × Lawful outer) × Decides b (Within inner outer)
  WithinAnswer inner outer (Err e) = (e ≡ rule.Order) × (Lawful inner × Lawful outer → ⊥)

  -- the points of the whole are those of the two lists together
  pub record Union (whole xs ys : List (Range P)) : Type 0 where
    pub only : (x : P) → In x whole → In x xs ⊎ In x ys
    pub left : (x : P) → In x xs → In x whole
    pub right : (x : P) → In x ys → In x whole

  -- two lawful lists with the same points have the same ranges
  abbrev pub Canonical : (P → Type 0) → Type 0
  Canonical fits =
      (xs ys : List (Range P)) → Fit fits xs → Fit fits ys → Lawful xs → Lawful ys
      → ((x : P) → fits x → In x xs → In x ys) → ((x : P) → fits x → In x ys → In x xs) → xs ≡ ys
