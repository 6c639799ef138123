-- Verdicts on routes (RFC 6811). Assumes nothing.
use Rattle.std.specs.Prelude.{◌≡◌, ℕ, ◌-◌, ◌/◌, ◌^◌, ◌<◌, ◌≤◌, Bool, true, false, cond, not, ◌&&◌, ◌||◌, List, [], ◌∷◌, Some, None, Ok, Err, codes, Option, Result, ◌==◌, ◌≢◌, nat_le, nat_lt}
use Rattle.std.specs.List.{ContainsAt as Has}
use Rattle.fault.specs.declared.Rule.{Rule}
use Rattle.fault.specs.declared.Rule.TheVariants as rule
use Rattle.family.specs.declared.Family.{Family}
use Rattle.family.specs.declared.Family.TheVariants.{Ipv4, Ipv6}
use Rattle.payload.specs.declared.Prefix.{Prefix}
use Rattle.payload.specs.declared.Payload.{Payload}
use Rattle.payload.specs.Order.{lawful}
use Rattle.verdict.specs.declared.Relation.{Relation}
use Rattle.verdict.specs.declared.Relation.TheVariants as relation
use Rattle.verdict.specs.declared.Verdict.{Verdict}
use Rattle.verdict.specs.declared.Verdict.TheVariants.{Valid, Invalid, NotFound}

-- the first so many bits of an address, as a number
abbrev pub front : ℕ → ℕ → ℕ
front n address = address / 2 ^ (128 - n)

-- a payload covers a route: one family, the payload's length at most the route's, and the addresses have the
-- same bits as far as the payload's length goes (RFC 6811, 2)
pub record Covers (p : Payload) (route : Prefix) : Type 0 where
  pub family : p.prefix.family ≡ route.family
  pub no_longer : p.prefix.length ≤ route.length
  pub same_bits : front p.prefix.length p.prefix.address ≡ front p.prefix.length route.address

-- a payload matches a route: it covers it, the route is no longer than the maximum, and the route's origin is the
-- payload's AS, which is not AS 0; a route without an origin matches none (RFC 6811, 2)
pub record Matches (p : Payload) (route : Prefix) (origin : Option ℕ) : Type 0 where
  pub covered : Covers p route
  pub within : route.length ≤ p.max
  pub same_as : origin ≡ Some p.asn
  pub not_zero : p.asn ≡ 0 → ⊥

-- the verdict by the payloads that there are (RFC 6811, 2): valid where some payload matches, invalid where some
-- covers and none matches, not found where none covers
abbrev pub Judged : List Payload → Prefix → Option ℕ → Verdict → Type 0
Judged xs route origin Valid = (p : Payload) × Has xs p × Matches p route origin
Judged xs route origin Invalid = ((p : Payload) × Has xs p × Covers p route) × ((p : Payload) → Has xs p → Matches p route origin → ⊥)
Judged xs route origin NotFound = (p : Payload) → Has xs p → Covers p route → ⊥

-- a judgement: a lawful route has its verdict, and an unlawful one is refused
abbrev pub Judgement : List Payload → Prefix → Option ℕ → Result Verdict Rule → Type 0
Judgement xs route origin (Ok v) = (lawful route ≡ true) × Judged xs route origin v
Judgement xs route origin (Err e) = (lawful route ≡ false) × (e ≡ rule.Prefix)

-- the word by which answers name a verdict
abbrev pub word_of : Verdict → List ℕ
word_of Valid = codes "valid"
word_of Invalid = codes "invalid"
word_of NotFound = codes "not-found"

-- the same as tests: proofs/Verdicts.antt shows that each decides its relation
abbrev pub same_family : Family → Family → Bool
same_family Ipv4 Ipv4 = true
same_family Ipv4 Ipv6 = false
same_family Ipv6 Ipv4 = false
same_family Ipv6 Ipv6 = true

-- a payload covers a route
abbrev pub covers : Payload → Prefix → Bool
covers p route =
    same_family p.prefix.family route.family
    && (nat_le p.prefix.length route.length
    && front p.prefix.length p.prefix.address == front p.prefix.length route.address)

-- the rest of a match, for a payload that covers
abbrev pub names : Payload → Prefix → Option ℕ → Bool
names p route None = false
names p route (Some asn) = nat_le route.length p.max && (not (p.asn == 0) && asn == p.asn)

-- a payload matches a route
abbrev pub matches : Payload → Prefix → Option ℕ → Bool
matches p route origin = covers p route && names p route origin

-- some payload of the list passes
abbrev pub any : (Payload → Bool) → List Payload → Bool
any f [] = false
any f (x ∷ xs) = f x || any f xs

-- the verdict, if the payloads seen before these said so much
abbrev pub verdict_after : Verdict → List Payload → Prefix → Option ℕ → Verdict
verdict_after v xs route origin = cond (any (λ p. matches p route origin) xs) Valid (cond (any (λ p. covers p route) xs) Invalid v)

-- the verdict by the payloads of a list
abbrev pub verdict_of : List Payload → Prefix → Option ℕ → Verdict
verdict_of xs route origin = verdict_after NotFound xs route origin

-- the judgement: the verdict on a lawful route
abbrev pub judged : List Payload → Prefix → Option ℕ → Result Verdict Rule
judged xs route origin = cond (lawful route) (Ok (verdict_of xs route origin)) (Err rule.Prefix)

-- why a payload that covers a route does not match it, or that it does
abbrev pub reason_of : Payload → Prefix → Option ℕ → Relation
reason_of p route None = cond (p.asn == 0) relation.AsZero relation.NoOrigin
reason_of p route (Some asn) =
    cond (p.asn == 0) relation.AsZero
    (cond (asn == p.asn) (cond (nat_lt p.max route.length) relation.TooLong relation.Matches) relation.OtherAs)

-- how a payload stands to a lawful route
abbrev pub related : Payload → Prefix → Option ℕ → Result Relation Rule
related p route origin = cond (lawful route) (Ok (cond (covers p route) (reason_of p route origin) relation.Apart)) (Err rule.Prefix)

-- the same in the words of RFC 6811
abbrev pub Relates : Payload → Prefix → Option ℕ → Result Relation Rule → Type 0
Relates p route origin (Ok relation.Apart) = Covers p route → ⊥
Relates p route origin (Ok relation.Matches) = Matches p route origin
Relates p route origin (Ok relation.AsZero) = Covers p route × (p.asn ≡ 0)
Relates p route origin (Ok relation.NoOrigin) = Covers p route × (origin ≡ None)
Relates p route origin (Ok relation.OtherAs) = Covers p route × (origin ≢ Some p.asn)
Relates p route origin (Ok relation.TooLong) = Covers p route × (p.max < route.length)
Relates p route origin (Err e) = (lawful route ≡ false) × (e ≡ rule.Prefix)
