-- What writing an entry and reading one are to each other, for any kind of points. Assumes nothing.
use Rattle.std.specs.Prelude.{◌≡◌, ℕ, ◌+◌, ◌<◌, ◌≤◌, List, ◌++◌, length, Ok, Result}
use Rattle.fault.specs.declared.Report.{Report}
use Rattle.element.specs.Reading.{Seen, Octets, read_of}
use Rattle.prefixes.specs.Theorems.{Octets as EachOctet}
use Rattle.ranges.specs.declared.Range.{Range}

module _ {P : Type 0} (rank : P → ℕ) (fits : P → Type 0) where
  -- a range of points of the kind that is not empty
  pub record Sound (r : Range P) : Type 0 where
    pub first_fits : fits r.first
    pub last_fits : fits r.last
    pub forward : rank r.first ≤ rank r.last

  module _ (entry : Seen → Result (Range P) Report) (text : Range P → List ℕ) where
    -- the text of a range, with the octets q after it, reads as an element that says the range, and then as q
    pub record ReadsAs (r : Range P) (at : ℕ) (q : List ℕ) : Type 0 where
      pub element : Seen
      pub read : read_of (text r ++ q) at ≡ Ok (element, record { octets = q; place = at + length (text r) })
      pub says : entry element ≡ Ok r

    -- octets are the text of a range, and then q
    pub record WrittenAs (s q : List ℕ) (r : Range P) : Type 0 where
      pub octets : s ≡ text r ++ q
      pub sound : Sound r

    -- what is written for a range reads back as that range, and what reads as a range was written for it: a range has one
    -- encoding, of at most 40 octets
    pub record EntryLaws : Type 0 where
      pub reads_back : (r : Range P) → Sound r → (at : ℕ) (q : List ℕ) → ReadsAs r at q
      pub one_encoding :
          (s : List ℕ) (at : ℕ) (e : Seen) (q : Octets) (r : Range P) → EachOctet s → read_of s at ≡ Ok (e, q) → entry e ≡ Ok r → WrittenAs s q.octets r
      pub some : (r : Range P) → 0 < length (text r)
      pub short : (r : Range P) → length (text r) ≤ 40
