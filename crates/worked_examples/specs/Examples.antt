-- Octets, ranges, payloads and routes worked out by hand. Assumes nothing.
use Rattle.std.specs.Prelude.{◌≡◌, ℕ, ◌*◌, ◌^◌, List, [], ◌∷◌, Some, None, Ok, Err, Result}
use Rattle.fault.specs.declared.Rule.TheVariants.{Form, Order}
use Rattle.fault.specs.declared.Layer.TheVariants.{Element, Set}
use Rattle.fault.specs.declared.Report.{Report}
use Rattle.fault.specs.declared.ElementFault.{ElementFault}
use Rattle.fault.specs.Faults.{element_report}
use Rattle.fault.specs.Numbers.{number_of}
use Rattle.element.specs.Reading.{Seen, Octets, read_of}
use Rattle.points.specs.declared.V4.{V4}
use Rattle.points.specs.Ranks.{v4_rank}
use Rattle.ranges.specs.declared.Range.{Range}
use Rattle.entries.specs.Kinds.{v4_of, v4_entry}
use Rattle.lists.specs.Entries.{Reading, entries_of}
use Rattle.family.specs.declared.Family.TheVariants.{Ipv4}
use Rattle.payload.specs.declared.Prefix.{Prefix}
use Rattle.payload.specs.declared.Payload.{Payload}
use Rattle.verdict.specs.declared.Verdict.TheVariants.{Valid, Invalid, NotFound}
use Rattle.verdict.specs.Routes.{judged}

-- the range that the element at the front of some octets says
abbrev pub entry_of : Result (Seen × Octets) ElementFault → Result (Range V4) Report
entry_of (Err f) = Err (element_report f)
entry_of (Ok p) = v4_entry p.0

abbrev pub range_of : List ℕ → Result (Range V4) Report
range_of s = entry_of (read_of s 0)

-- the addresses from one to another
abbrev pub from_to : ℕ → ℕ → Range V4
from_to a b = record { first = v4_of a; last = v4_of b }

-- the entries of a list of IPv4 addresses
abbrev pub ranges_of : List ℕ → Reading V4
ranges_of s = entries_of v4_rank v4_entry 256 None record { octets = s; place = 0 }

-- an IPv4 prefix by the number of its address
abbrev pub prefix_at : ℕ → ℕ → Prefix
prefix_at a l = record { family = Ipv4; address = a * 2 ^ 96; length = l }

-- AS 64496, 192.0.2.0/24, maximum 26
abbrev pub example : Payload
example = record { asn = 64496; prefix = prefix_at 3221225984 24; max = 26 }

pub record Worked : Type 0 where
  -- 030400C00002 is 192.0.2.0/24
  pub a_prefix : range_of (3 ∷ (4 ∷ (0 ∷ (192 ∷ (0 ∷ (2 ∷ [])))))) ≡ Ok (from_to 3221225984 3221226239)
  -- 030100 is 0.0.0.0/0
  pub every_address : range_of (3 ∷ (1 ∷ (0 ∷ []))) ≡ Ok (from_to 0 4294967295)
  -- 0303040A40 is 10.64.0.0/12
  pub some_bits : range_of (3 ∷ (3 ∷ (4 ∷ (10 ∷ (64 ∷ []))))) ≡ Ok (from_to 171966464 173015039)
  -- with 41 as its last octet it breaks its form
  pub bits_past : range_of (3 ∷ (3 ∷ (4 ∷ (10 ∷ (65 ∷ []))))) ≡ Err record { rule = Form; place = 0; layer = Element }
  pub form : number_of Form ≡ 1
  -- 300E0305020A0500040305030A050010 is 10.5.0.4 to 10.5.0.23
  pub a_range :
      range_of (48 ∷ (14 ∷ (3 ∷ (5 ∷ (2 ∷ (10 ∷ (5 ∷ (0 ∷ (4 ∷ (3 ∷ (5 ∷ (3 ∷ (10 ∷ (5 ∷ (0 ∷ (16 ∷ []))))))))))))))))
      ≡ Ok (from_to 168099844 168099863)
  -- 10.0.0.0/9 followed by 10.128.0.0/9 touches it: a fault at the second
  pub touching :
      ranges_of (3 ∷ (3 ∷ (7 ∷ (10 ∷ (0 ∷ (3 ∷ (3 ∷ (7 ∷ (10 ∷ (128 ∷ []))))))))))
      ≡ (from_to 167772160 176160767 ∷ [], Err record { rule = Order; place = 5; layer = Set })
  pub order : number_of Order ≡ 4
  -- 192.0.2.64/26 of AS 64496
  pub valid : judged (example ∷ []) (prefix_at 3221226048 26) (Some 64496) ≡ Ok Valid
  -- 192.0.2.64/27 is longer than the maximum
  pub invalid : judged (example ∷ []) (prefix_at 3221226048 27) (Some 64496) ≡ Ok Invalid
  -- 192.0.0.0/16 is shorter than the payload
  pub not_found : judged (example ∷ []) (prefix_at 3221225472 16) (Some 64496) ≡ Ok NotFound
