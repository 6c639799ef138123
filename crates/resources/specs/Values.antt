-- The values of the two resource extensions (RFC 3779 2.2.3 and 3.2.3). Assumes nothing.
use Rattle.std.specs.Prelude.{ℕ, cond, List, [], length, replicate, Some, None, Ok, Option, Result, ◌==◌}
use Rattle.fault.specs.declared.Layer.TheVariants.{Set}
use Rattle.fault.specs.declared.Report.{Report}
use Rattle.family.specs.declared.Family.{Family}
use Rattle.family.specs.declared.Family.TheVariants.{Ipv4, Ipv6}
use Rattle.element.specs.Reading.{Octets}
use Rattle.layout.specs.Expecting.{then_read, expect_of, end_of}
use Rattle.families.specs.Families.{family_after}
use Rattle.points.specs.declared.V4.{V4}
use Rattle.points.specs.declared.V6.{V6}
use Rattle.points.specs.declared.Asn.{Asn}
use Rattle.points.specs.Ranks.{v4_rank, v6_rank, asn_rank}
use Rattle.ranges.specs.declared.Range.{Range}
use Rattle.entries.specs.Addresses.{inside}
use Rattle.entries.specs.Kinds.{v4_entry, v6_entry, asn_entry}
use Rattle.lists.specs.Entries.{kept}
use Rattle.resources.specs.declared.Held.{Held}
use Rattle.resources.specs.declared.Held.TheVariants as held
use Rattle.resources.specs.declared.Addresses.{Addresses}
use Rattle.resources.specs.declared.May.{May}
use Rattle.resources.specs.declared.Tables.{Tables}
use Rattle.resources.specs.Parts.{read_by, read_part, ranges_of}

-- the next family, which stands after the one before it: which it is, what is said of it, and the octets after it
abbrev pub next_family : Option Family → Octets → Result (Family × Octets × Octets) Report
next_family before q =
    then_read (expect_of Set 48 q) (λ s. then_read (family_after Set before (inside s.0)) (λ h. Ok (h.0, h.1, s.1)))

-- a family after IPv6, whose name does not ascend
abbrev pub further : Octets → Result (Unit {0}) Report
further q = then_read (next_family (Some Ipv6) q) (λ _. Ok tt)

-- no family follows IPv6
abbrev pub no_more : Octets → Result (Unit {0}) Report
no_more q = cond (length q.octets == 0) (Ok tt) (further q)

-- what is said of IPv6 by the octets p, and no family in q after it
abbrev pub last_of : May → Octets → Octets → Result Held Report
last_of m p q = then_read (read_part v6_rank v6_entry m p) (λ v6. then_read (no_more q) (λ _. Ok v6))

-- what is said of IPv6 after IPv4
abbrev pub second_of : May → Octets → Result Held Report
second_of m q =
    cond (length q.octets == 0) (Ok held.Absent) (then_read (next_family (Some Ipv4) q) (λ h. last_of m h.1 h.2))

abbrev pub second_ranges : May → Octets → List (Range V6)
second_ranges m q =
    cond (length q.octets == 0) [] (read_by (next_family (Some Ipv4) q) (λ h. ranges_of v6_rank v6_entry m h.1))

-- the first family, said by the octets p, and what follows it: IPv6 may follow IPv4
abbrev pub from_first : Family → May → Octets → Octets → Result Addresses Report
from_first Ipv4 m p q =
    then_read (read_part v4_rank v4_entry m p) (λ v4. then_read (second_of m q) (λ v6. Ok record { v4 = v4; v6 = v6 }))
from_first Ipv6 m p q = then_read (last_of m p q) (λ v6. Ok record { v4 = held.Absent; v6 = v6 })

-- what the families in some octets say: at least one, in ascending order
abbrev pub families_of : May → Octets → Result Addresses Report
families_of m q = then_read (next_family None q) (λ h. from_first h.0 m h.1 h.2)

-- the ranges of each kind that are read there
abbrev pub v4_first : Family → May → Octets → List (Range V4)
v4_first Ipv4 m p = ranges_of v4_rank v4_entry m p
v4_first Ipv6 m p = []

abbrev pub families_v4 : May → Octets → List (Range V4)
families_v4 m q = read_by (next_family None q) (λ h. v4_first h.0 m h.1)

abbrev pub v6_from : Family → May → Octets → Octets → List (Range V6)
v6_from Ipv4 m p q = read_by (read_part v4_rank v4_entry m p) (λ _. second_ranges m q)
v6_from Ipv6 m p q = ranges_of v6_rank v6_entry m p

abbrev pub families_v6 : May → Octets → List (Range V6)
families_v6 m q = read_by (next_family None q) (λ h. v6_from h.0 m h.1 h.2)

-- the tables after a reading: the ranges that were read, and past them what stood there before
abbrev pub family_tables : May → Octets → Tables → Tables
family_tables m q t = record { v4 = kept (families_v4 m q) t.v4; v6 = kept (families_v6 m q) t.v6; asn = t.asn }

-- the value of the extension for addresses: one SEQUENCE of families, and nothing after it
abbrev pub addresses_of : May → Octets → Result Addresses Report
addresses_of m q =
    then_read (expect_of Set 48 q) (λ s. then_read (families_of m (inside s.0)) (λ a. then_read (end_of Set s.1) (λ _. Ok a)))

abbrev pub addresses_v4 : May → Octets → List (Range V4)
addresses_v4 m q = read_by (expect_of Set 48 q) (λ s. families_v4 m (inside s.0))

abbrev pub addresses_v6 : May → Octets → List (Range V6)
addresses_v6 m q = read_by (expect_of Set 48 q) (λ s. families_v6 m (inside s.0))

-- the value of the extension for AS numbers: a SEQUENCE of one element A0 (160) with the one part, and nothing after them
abbrev pub asn_of : May → Octets → Result Held Report
asn_of m q =
    then_read (expect_of Set 48 q) (λ s.
    then_read (expect_of Set 160 (inside s.0)) (λ a.
    then_read (read_part asn_rank asn_entry m (inside a.0)) (λ h.
    then_read (end_of Set a.1) (λ _.
    then_read (end_of Set s.1) (λ _. Ok h)))))

abbrev pub asn_ranges : May → Octets → List (Range Asn)
asn_ranges m q =
    read_by (expect_of Set 48 q) (λ s. read_by (expect_of Set 160 (inside s.0)) (λ a. ranges_of asn_rank asn_entry m (inside a.0)))

-- the tables after a reading of either value
abbrev pub address_tables : May → Octets → Tables → Tables
address_tables m q t = record { v4 = kept (addresses_v4 m q) t.v4; v6 = kept (addresses_v6 m q) t.v6; asn = t.asn }

abbrev pub asn_tables : May → Octets → Tables → Tables
asn_tables m q t = record { v4 = t.v4; v6 = t.v6; asn = kept (asn_ranges m q) t.asn }

-- octets that stand alone: their place is 0
abbrev pub alone : List ℕ → Octets
alone s = record { octets = s; place = 0 }

-- one and the same range 256 times
abbrev pub full : {P : Type 0} → P → List (Range P)
full x = replicate 256 record { first = x; last = x }

-- tables as they are made
abbrev pub fresh_tables : Tables
fresh_tables = record { v4 = full record { word = 0 }; v6 = full record { high = 0; low = 0 }; asn = full record { number = 0 } }
