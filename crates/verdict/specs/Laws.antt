-- What a verdict depends on. Assumes nothing.
use Rattle.std.specs.Prelude.{◌≡◌, ℕ, ◌<◌, ◌⊎◌, List, Some, None, Option, ◌≢◌}
use Rattle.std.specs.List.{ContainsAt as Has}
use Rattle.payload.specs.declared.Prefix.{Prefix}
use Rattle.payload.specs.declared.Payload.{Payload}
use Rattle.payload.specs.Lists.{inserted_into}
use Rattle.verdict.specs.declared.Verdict.{Verdict}
use Rattle.verdict.specs.declared.Verdict.TheVariants.{NotFound}
use Rattle.verdict.specs.Routes.{Covers, Matches, Judged, verdict_of}

-- the relation of RFC 6811 gives one verdict
abbrev pub OneVerdict : Type 0
OneVerdict = (xs : List Payload) (route : Prefix) (origin : Option ℕ) (v w : Verdict) → Judged xs route origin v → Judged xs route origin w → v ≡ w

-- lists of the same payloads give the same verdict
abbrev pub SameVerdict : Type 0
SameVerdict =
    (xs ys : List Payload) (route : Prefix) (origin : Option ℕ)
    → ((p : Payload) → (Has xs p → Has ys p) × (Has ys p → Has xs p)) → verdict_of xs route origin ≡ verdict_of ys route origin

-- a payload that does not cover a route, put into a list, leaves the verdict on the route as it was
abbrev pub UncoveredStays : Type 0
UncoveredStays =
    (p : Payload) (xs : List Payload) (route : Prefix) (origin : Option ℕ)
    → (Covers p route → ⊥) → verdict_of (inserted_into p xs) route origin ≡ verdict_of xs route origin

-- a route that no payload covers is not found
abbrev pub NoneCovers : Type 0
NoneCovers =
    (xs : List Payload) (route : Prefix) (origin : Option ℕ)
    → ((p : Payload) → Has xs p → Covers p route → ⊥) → verdict_of xs route origin ≡ NotFound

-- a payload that is longer than the route does not cover it
abbrev pub LongerCoversNot : Type 0
LongerCoversNot = (p : Payload) (route : Prefix) → route.length < p.prefix.length → Covers p route → ⊥

-- a route without an origin, and one of AS 0, matches no payload
abbrev pub NoOriginMatchesNot : Type 0
NoOriginMatchesNot = (p : Payload) (route : Prefix) → (Matches p route None → ⊥) × (Matches p route (Some 0) → ⊥)

-- a payload that covers the route, and that the one list has and the other has not
pub record Telling (route : Prefix) (xs ys : List Payload) : Type 0 where
  pub payload : Payload
  pub covering : Covers payload route
  pub told : (Has xs payload × (Has ys payload → ⊥)) ⊎ (Has ys payload × (Has xs payload → ⊥))

-- lists that give different verdicts differ in a payload that covers the route
abbrev pub DifferInCover : Type 0
DifferInCover =
    (xs ys : List Payload) (route : Prefix) (origin : Option ℕ)
    → (verdict_of xs route origin ≢ verdict_of ys route origin) → Telling route xs ys
