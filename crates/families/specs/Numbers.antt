-- The families by their numbers, in the order of their names (RFC 3779 2.2.3.3, RFC 9582 4.3.1). Assumes nothing.
use Rattle.std.specs.Prelude.{ℕ, cond, ◌&&◌, List, length, Some, None, Ok, Option, Result, ◌==◌, nat_le, slice_index}
use Rattle.family.specs.declared.Family.{Family}
use Rattle.family.specs.declared.Family.TheVariants.{Ipv4, Ipv6}
use Rattle.fault.specs.declared.Rule.TheVariants.{Value}
use Rattle.fault.specs.declared.Layer.{Layer}
use Rattle.fault.specs.declared.Report.{Report}
use Rattle.element.specs.declared.part.Part.{Part}
use Rattle.element.specs.Reading.{Octets, octets_of}
use Rattle.layout.specs.Expecting.{broken, then_read, expect_of}

-- the number of an address family: two octets, 00 01 for IPv4 and 00 02 for IPv6, 0 for any others
abbrev pub family_of : List ℕ → ℕ
family_of s = cond (length s == 2 && (slice_index s 0 == 0 && nat_le (slice_index s 1) 2)) (slice_index s 1) 0

-- the family that a content begins with, after the one before it, and the octets after its name
abbrev pub family_after : Layer → ℕ → Octets → Result (ℕ × Octets) Report
family_after l before q =
    then_read (expect_of l 4 q) (λ name.
    cond (nat_le (family_of name.0.content) before) (broken l Value name.0.place) (Ok (family_of name.0.content, name.1)))

-- as the program holds them
abbrev pub family_seen : ℕ × Part → ℕ × Octets
family_seen p = (p.0, octets_of p.1)

-- the number of a family
abbrev pub number_of : Family → ℕ
number_of Ipv4 = 1
number_of Ipv6 = 2

-- the last family whose number is at most this one: none at 0, IPv4 at 1, and IPv6 from 2 on
abbrev pub last_up_to : ℕ → Option Family
last_up_to n = cond (n == 0) None (cond (n == 1) (Some Ipv4) (Some Ipv6))
