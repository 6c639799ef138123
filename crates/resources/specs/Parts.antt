-- What is said of one part of the resources: it is inherited, or a list (RFC 3779 2.2.3.3 to 2.2.3.6 and 3.2.3.1 to 3.2.3.4).
-- Assumes nothing.
use Rattle.std.specs.Prelude.{ℕ, Bool, true, cond, ◌||◌, List, [], length, take, None, Ok, Err, Result, ◌==◌}
use Rattle.fault.specs.declared.Rule.TheVariants.{Structure, Value}
use Rattle.fault.specs.declared.Layer.TheVariants.{Set}
use Rattle.fault.specs.declared.Report.{Report}
use Rattle.element.specs.Reading.{Seen, Octets}
use Rattle.layout.specs.Expecting.{broken, then_read, next_of, end_of}
use Rattle.ranges.specs.declared.Range.{Range}
use Rattle.entries.specs.Addresses.{inside}
use Rattle.lists.specs.Entries.{entries_of, counted}
use Rattle.resources.specs.declared.Held.{Held}
use Rattle.resources.specs.declared.Held.TheVariants as held
use Rattle.resources.specs.declared.May.{May}
use Rattle.resources.specs.declared.May.TheVariants as may

-- the ranges that a part holds, given the table of its kind and what the issuer holds: an absent part holds nothing, an
-- inherited one what the issuer's does, and a list its ranges at the front of the table
abbrev pub holds : {P : Type 0} → List (Range P) → List (Range P) → Held → List (Range P)
holds table issuer held.Absent = []
holds table issuer held.Inherited = issuer
holds table issuer (held.List place count) = take count table

-- which of NULL (05) and SEQUENCE (30) may stand in a part
abbrev pub allowed : May → ℕ → Bool
allowed may.List tag = tag == 48
allowed may.Inherit tag = tag == 5
allowed may.Either tag = true

-- a part is said by a NULL or a SEQUENCE, and by one that may stand there
abbrev pub chosen : May → Seen × Octets → Result (Seen × Octets) Report
chosen m p =
    cond (p.0.tag == 5 || p.0.tag == 48)
    (cond (allowed m p.0.tag) (Ok p) (broken Set Value p.0.place))
    (broken Set Structure p.0.place)

abbrev pub choice_of : May → Octets → Result (Seen × Octets) Report
choice_of m q = then_read (next_of Set q) (chosen m)

-- what was read before the first fault: nothing where the reading did not come so far
abbrev pub read_by : {V X : Type 0} → Result V Report → (V → List X) → List X
read_by (Ok v) k = k v
read_by (Err f) k = []

module _ {P : Type 0} (rank : P → ℕ) (entry : Seen → Result (Range P) Report) where
  -- a list by the place of its SEQUENCE and the number of its entries
  abbrev pub list_at : ℕ → Result ℕ Report → Result Held Report
  list_at place r = then_read r (λ n. Ok (held.List place n))

  -- what a NULL or a SEQUENCE says of a part; a list of no entries is forbidden, at its tag
  abbrev pub held_of : Seen → Result Held Report
  held_of e =
      cond (e.tag == 5) (Ok held.Inherited)
      (cond (length e.content == 0) (broken Set Value e.place) (list_at e.place (counted (entries_of rank entry 256 None (inside e)))))

  -- the ranges that are read there
  abbrev pub ranges_in : Seen → List (Range P)
  ranges_in e = cond (e.tag == 5) [] (cond (length e.content == 0) [] (entries_of rank entry 256 None (inside e)).0)

  -- what a content says of a part, with nothing after it
  unfoldable pub read_part : May → Octets → Result Held Report
  read_part m q = then_read (choice_of m q) (λ p. then_read (held_of p.0) (λ h. then_read (end_of Set p.1) (λ _. Ok h)))

  unfoldable pub ranges_of : May → Octets → List (Range P)
  ranges_of m q = read_by (choice_of m q) (λ p. ranges_in p.0)
