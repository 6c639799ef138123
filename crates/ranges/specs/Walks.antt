-- The tests that the code makes as it walks along its lists. Sets.antt has what they decide. Assumes nothing.
use Rattle.std.specs.Prelude.{ℕ, ◌+◌, Bool, true, false, cond, ◌&&◌, List, [], ◌∷◌, length, nat_le, nat_lt}
use Rattle.ranges.specs.declared.Range.{Range}

-- the list has 1 to 256 ranges
abbrev pub counted : {P : Type 0} → List (Range P) → Bool
counted rs = nat_lt 0 (length rs) && nat_le (length rs) 256

module _ {P : Type 0} (rank : P → ℕ) where
  -- the range is not empty
  abbrev pub forward : Range P → Bool
  forward r = nat_le (rank r.first) (rank r.last)

  -- a point is missing between the range and the next one
  abbrev pub gap_before : Range P → List (Range P) → Bool
  gap_before r [] = true
  gap_before r (s ∷ ss) = nat_lt (rank r.last + 1) (rank s.first)

  -- the first range of the list is forward, and apart from the second
  abbrev pub head_lawful : List (Range P) → Bool
  head_lawful [] = true
  head_lawful (r ∷ rs) = forward r && gap_before r rs

  -- each range is forward, and apart from the next
  abbrev pub ascending : List (Range P) → Bool
  ascending [] = true
  ascending (r ∷ rs) = (forward r && gap_before r rs) && ascending rs

  -- counted, and ascending
  abbrev pub lawful : List (Range P) → Bool
  lawful rs = counted rs && ascending rs

  -- what is left of the list from the first range on that ends at p or later
  abbrev pub ending_from : P → List (Range P) → List (Range P)
  ending_from p [] = []
  ending_from p (o ∷ os) = cond (nat_le (rank p) (rank o.last)) (o ∷ os) (ending_from p os)

  -- the first range of the list begins at p or before
  abbrev pub begins_by : P → List (Range P) → Bool
  begins_by p [] = false
  begins_by p (o ∷ os) = nat_le (rank o.first) (rank p)

  -- each range of the one lies in a range of the other
  abbrev pub covered : List (Range P) → List (Range P) → Bool
  covered [] os = true
  covered (r ∷ rs) os = begins_by r.first (ending_from r.last os) && covered rs (ending_from r.last os)
