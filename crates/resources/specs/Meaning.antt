-- What the value of a resource extension says, as a relation between its octets, the parts and the ranges in them.
-- Assumes nothing.
use Rattle.std.specs.Prelude.{◌≡◌, ℕ, true, ◌⊎◌, List, [], ◌∷◌, length, Ok, Err, Result}
use Rattle.fault.specs.declared.Rule.TheVariants.{Value}
use Rattle.fault.specs.declared.Layer.TheVariants.{Set}
use Rattle.fault.specs.declared.Report.{Report}
use Rattle.family.specs.declared.Family.{Family}
use Rattle.family.specs.declared.Family.TheVariants.{Ipv4, Ipv6}
use Rattle.element.specs.Reading.{Seen, Octets, read_of}
use Rattle.layout.specs.Expecting.{broken}
use Rattle.points.specs.declared.V4.{V4}
use Rattle.points.specs.declared.V6.{V6}
use Rattle.points.specs.declared.Asn.{Asn}
use Rattle.points.specs.Ranks.{v4_rank, v6_rank, asn_rank}
use Rattle.ranges.specs.declared.Range.{Range}
use Rattle.ranges.specs.Sets.{Lawful}
use Rattle.entries.specs.Addresses.{inside}
use Rattle.entries.specs.Kinds.{v4_entry, v6_entry, asn_entry}
use Rattle.resources.specs.declared.Held.{Held}
use Rattle.resources.specs.declared.Held.TheVariants as held
use Rattle.resources.specs.declared.Addresses.{Addresses}
use Rattle.resources.specs.declared.May.{May}
use Rattle.resources.specs.declared.Tables.{Tables}
use Rattle.resources.specs.Parts.{allowed, holds}

-- the octets q begin with the element e, and `after` follows it
abbrev pub Next : Octets → Seen → Octets → Type 0
Next q e after = read_of q.octets q.place ≡ Ok (e, after)

-- no octets are left
abbrev pub Ended : Octets → Type 0
Ended q = length q.octets ≡ 0

-- the octets q are the element e of tag t, and nothing more
pub record Only (q : Octets) (t : ℕ) (e : Seen) : Type 0 where
  pub after : Octets
  pub next : Next q e after
  pub tagged : e.tag ≡ t
  pub ended : Ended after

module _ {P : Type 0} (rank : P → ℕ) (entry : Seen → Result (Range P) Report) where
  -- the octets q are elements, one for each of these ranges and in their order, and each says its range
  abbrev pub Rows : Octets → List (Range P) → Type 0
  Rows q [] = Ended q
  Rows q (r ∷ rs) = (e : Seen) × (after : Octets) × Next q e after × (entry e ≡ Ok r) × Rows after rs

  -- the octets q are a NULL, which may stand there
  pub record Inherits (m : May) (q : Octets) : Type 0 where
    pub null : Seen
    pub only : Only q 5 null
    pub may : allowed m 5 ≡ true

  -- the octets q are a SEQUENCE at this place, which may stand there, of entries that say these ranges, and they are a lawful list
  pub record Lists (m : May) (q : Octets) (place : ℕ) (rs : List (Range P)) : Type 0 where
    pub list : Seen
    pub only : Only q 48 list
    pub may : allowed m 48 ≡ true
    pub stands : place ≡ list.place
    pub rows : Rows (inside list) rs
    pub law : Lawful rank rs

  -- the octets q say this of a part, and list these ranges
  abbrev pub PartSays : May → Octets → Held → List (Range P) → Type 0
  PartSays m q held.Absent rs = ⊥
  PartSays m q held.Inherited rs = Inherits m q × (rs ≡ [])
  PartSays m q (held.List place n) rs = Lists m q place rs × (n ≡ length rs)

-- the value q of the extension for AS numbers says this, and lists these ranges
pub record AsnSays (m : May) (q : Octets) (h : Held) (rs : List (Range Asn)) : Type 0 where
  pub outer : Seen
  pub numbers : Seen
  pub value : Only q 48 outer
  pub choice : Only (inside outer) 160 numbers
  pub part : PartSays asn_rank asn_entry m (inside numbers) h rs

-- the octets that name a family: 00 01 is IPv4, 00 02 is IPv6 (RFC 3779 2.2.3.3)
abbrev pub name_of : Family → List ℕ
name_of Ipv4 = 0 ∷ (1 ∷ [])
name_of Ipv6 = 0 ∷ (2 ∷ [])

-- the octets q begin with the family f, p stands after its name and `after` follows the family
pub record FamilyAt (f : Family) (q p after : Octets) : Type 0 where
  pub family : Seen
  pub name : Seen
  pub first : Next q family after
  pub tagged : family.tag ≡ 48
  pub named : Next (inside family) name p
  pub octets : name.tag ≡ 4
  pub names : name.content ≡ name_of f

module _ {P : Type 0} (rank : P → ℕ) (entry : Seen → Result (Range P) Report) where
  -- the octets q begin with the family f, which says this and lists these ranges, and `after` follows it
  pub record FamilySays (m : May) (f : Family) (q : Octets) (h : Held) (rs : List (Range P)) (after : Octets) : Type 0 where
    pub inner : Octets
    pub stands : FamilyAt f q inner after
    pub part : PartSays rank entry m inner h rs

  -- the same of a family that may be absent: then nothing is said, and q is what follows
  abbrev pub Optional : May → Family → Octets → Held → List (Range P) → Octets → Type 0
  Optional m f q held.Absent rs after = (after ≡ q) × (rs ≡ [])
  Optional m f q held.Inherited rs after = FamilySays m f q held.Inherited rs after
  Optional m f q (held.List place k) rs after = FamilySays m f q (held.List place k) rs after

-- the octets q are families, one or two, IPv4 before IPv6, that say this and list these ranges
pub record FamiliesSay (m : May) (q : Octets) (a : Addresses) (rs : List (Range V4) × List (Range V6)) : Type 0 where
  pub middle : Octets
  pub after : Octets
  pub some : Ended q → ⊥
  pub v4 : Optional v4_rank v4_entry m Ipv4 q a.v4 rs.0 middle
  pub v6 : Optional v6_rank v6_entry m Ipv6 middle a.v6 rs.1 after
  pub ended : Ended after

-- the value q of the extension for addresses says this, and lists these ranges
pub record AddressesSay (m : May) (q : Octets) (a : Addresses) (rs : List (Range V4) × List (Range V6)) : Type 0 where
  pub outer : Seen
  pub value : Only q 48 outer
  pub families : FamiliesSay m (inside outer) a rs

-- an answer to what some octets say: it is this and no other, or, where they are refused, they say nothing
abbrev pub Tells : {X Y E : Type 0} → (X → Y → Type 0) → (X → Y) → Result X E → Type 0
Tells {X = X} {Y = Y} Says listed (Ok x) = Says x (listed x) × ((u : X) (v : Y) → Says u v → (u ≡ x) × (v ≡ listed x))
Tells {X = X} {Y = Y} Says listed (Err f) = (u : X) (v : Y) → Says u v → ⊥

-- the ranges that an answer lists, at the front of the tables
abbrev pub asn_listed : Tables → Held → List (Range Asn)
asn_listed t h = holds t.asn [] h

abbrev pub addresses_listed : Tables → Addresses → List (Range V4) × List (Range V6)
addresses_listed t a = (holds t.v4 [] a.v4, holds t.v6 [] a.v6)

-- the octets p begin with the SEQUENCE e of a list
pub record ListAt (p : Octets) (e : Seen) : Type 0 where
  pub after : Octets
  pub next : Next p e after
  pub tagged : e.tag ≡ 48

-- e is the SEQUENCE of the list in the value q of the extension for AS numbers, whatever follows it
pub record AsnListIn (q : Octets) (e : Seen) : Type 0 where
  pub outer : Seen
  pub numbers : Seen
  pub outer_after : Octets
  pub numbers_after : Octets
  pub value : Next q outer outer_after
  pub value_tag : outer.tag ≡ 48
  pub choice : Next (inside outer) numbers numbers_after
  pub choice_tag : numbers.tag ≡ 160
  pub list : ListAt (inside numbers) e

-- e is the SEQUENCE of the list of one of the families q, that of the first, or that of IPv6 after an IPv4 family that says something
abbrev pub FamiliesListIn : May → Octets → Seen → Type 0
FamiliesListIn m q e =
    ((f : Family) × (p : Octets) × (after : Octets) × FamilyAt f q p after × ListAt p e)
    ⊎ ((h : Held) × (rs : List (Range V4)) × (middle : Octets) × (p : Octets) × (after : Octets)
    × FamilySays v4_rank v4_entry m Ipv4 q h rs middle × FamilyAt Ipv6 middle p after × ListAt p e)

-- e is the SEQUENCE of such a list in the value q of the extension for addresses, whatever follows it
pub record AddressListIn (m : May) (q : Octets) (e : Seen) : Type 0 where
  pub outer : Seen
  pub after : Octets
  pub value : Next q outer after
  pub value_tag : outer.tag ≡ 48
  pub list : FamiliesListIn m (inside outer) e

-- a list of no entries is forbidden, at its tag
abbrev pub EmptyRefused : {X : Type 0} → (Seen → Type 0) → Result X Report → Type 0
EmptyRefused ListIn r = (e : Seen) → ListIn e → length e.content ≡ 0 → r ≡ broken Set Value e.place
