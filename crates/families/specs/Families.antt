-- The names of address families in their order (RFC 3779 2.2.3.3, RFC 9582 4.3.1). Assumes nothing.
use Rattle.std.specs.Prelude.{ℕ, Bool, true, false, cond, List, [], ◌∷◌, Some, None, Ok, Option, Result}
use Rattle.std.specs.Str.{bytes_eq}
use Rattle.family.specs.declared.Family.{Family}
use Rattle.family.specs.declared.Family.TheVariants.{Ipv4, Ipv6}
use Rattle.fault.specs.declared.Rule.TheVariants.{Value}
use Rattle.fault.specs.declared.Layer.{Layer}
use Rattle.fault.specs.declared.Report.{Report}
use Rattle.element.specs.declared.part.Part.{Part}
use Rattle.element.specs.Reading.{Octets, octets_of}
use Rattle.layout.specs.Expecting.{broken, then_read, expect_of}

-- the family that octets name: 00 01 is IPv4, 00 02 is IPv6
abbrev pub family_named : List ℕ → Option Family
family_named s = cond (bytes_eq s (0 ∷ (1 ∷ []))) (Some Ipv4) (cond (bytes_eq s (0 ∷ (2 ∷ []))) (Some Ipv6) None)

-- either may be the first, and then only IPv6 may follow IPv4
abbrev pub follows : Option Family → Family → Bool
follows None f = true
follows (Some Ipv4) Ipv4 = false
follows (Some Ipv4) Ipv6 = true
follows (Some Ipv6) f = false

-- a name at a place, which names a family after the one before it, and the octets after it
abbrev pub in_order : Layer → Option Family → ℕ → Octets → Option Family → Result (Family × Octets) Report
in_order l before place q None = broken l Value place
in_order l before place q (Some f) = cond (follows before f) (Ok (f, q)) (broken l Value place)

-- the family that a content begins with, after the one before it, and the octets after its name
abbrev pub family_after : Layer → Option Family → Octets → Result (Family × Octets) Report
family_after l before q =
    then_read (expect_of l 4 q) (λ name. in_order l before name.0.place name.1 (family_named name.0.content))

-- as the program holds them
abbrev pub family_seen : Family × Part → Family × Octets
family_seen p = (p.0, octets_of p.1)
