-- The tests decide the relations of RFC 6811, and so the verdict is theirs. Assumes nothing.
use Rattle.std.proofs.Common.{◌≡◌, ℕ, ◌≤◌, Bool, true, false, cond, not, ◌&&◌, eqb, leb, List, [], ◌∷◌, Some, None, Ok, Err, Decides, Option, Result, sym, refl, ap, ◌∙◌, subst, ⊎_elim, arith}
use Rattle.std.specs.List.{ContainsAt as Has}
use Rattle.std.proofs.lemmas.Bool.{or_cases, or_left, or_right, and_parts, and_from, both_ways, leb-true, le-leb, eqb-true, eq-eqb, ne_eqb, not-true, not_from_false, eqb-false, cond-true}
use Rattle.fault.specs.declared.Rule.{Rule}
use Rattle.fault.specs.declared.Rule.TheVariants as rule
use Rattle.family.specs.declared.Family.{Family}
use Rattle.family.specs.declared.Family.TheVariants.{Ipv4, Ipv6}
use Rattle.payload.specs.declared.Prefix.{Prefix}
use Rattle.payload.specs.declared.Payload.{Payload}
use Rattle.payload.specs.Order.{lawful}
use Rattle.payload.proofs.Members.{has_cases, has_here, has_there, none_has}
use Rattle.verdict.specs.declared.Verdict.{Verdict}
use Rattle.verdict.specs.declared.Verdict.TheVariants.{Valid, Invalid, NotFound}
use Rattle.verdict.specs.Routes.{front, Covers, Matches, Judged, Judgement, same_family, covers, names, matches, any, verdict_of, judged}

family_from : (f g : Family) → same_family f g ≡ true → f ≡ g
family_from Ipv4 Ipv4 e = refl
family_from Ipv4 Ipv6 e = absurd (both_ways false refl e)
family_from Ipv6 Ipv4 e = absurd (both_ways false refl e)
family_from Ipv6 Ipv6 e = refl

family_itself : (f : Family) → same_family f f ≡ true
family_itself Ipv4 = refl
family_itself Ipv6 = refl

pub covers_decides : (p : Payload) (route : Prefix) → Decides (covers p route) (Covers p route)
covers_decides p route =
    let f : Bool = same_family p.prefix.family route.family in
    let l : Bool = leb p.prefix.length route.length in
    let b : Bool = eqb (front p.prefix.length p.prefix.address) (front p.prefix.length route.address) in (
      (λ e.
          let u : (f ≡ true) × ((l && b) ≡ true) = and_parts f (l && b) e in
          let w : (l ≡ true) × (b ≡ true) = and_parts l b u.1 in
          record { family = family_from p.prefix.family route.family u.0; no_longer = leb-true _ _ w.0; same_bits = eqb-true _ _ w.1 }),
      (λ c.
          let P : Family → Type 0 = λ g. same_family p.prefix.family g ≡ true in
          and_from f (l && b) (subst P c.family (family_itself p.prefix.family)) (and_from l b (le-leb _ _ c.no_longer) (eq-eqb _ _ c.same_bits))),
    )

-- what a payload asks of a route that it covers
abbrev Named : Payload → Prefix → Option ℕ → Type 0
Named p route origin = (route.length ≤ p.max) × (origin ≡ Some p.asn) × (p.asn ≡ 0 → ⊥)

named_from : (p : Payload) (route : Prefix) (origin : Option ℕ) → names p route origin ≡ true → Named p route origin
named_from p route None e = absurd (both_ways false refl e)
named_from p route (Some asn) e =
    let u = and_parts (leb route.length p.max) (not (eqb p.asn 0) && eqb asn p.asn) e in
    let w = and_parts (not (eqb p.asn 0)) (eqb asn p.asn) u.1 in
    (leb-true _ _ u.0, ap (λ (n : ℕ). Some n) (eqb-true asn p.asn w.1), eqb-false p.asn 0 (not-true (eqb p.asn 0) w.0))

some_same : (m n : ℕ) → Some m ≡ Some n → m ≡ n
some_same m n e = cc

named_to : (p : Payload) (route : Prefix) (origin : Option ℕ) → Named p route origin → names p route origin ≡ true
named_to p route None (l, e, n) = let z : ◌≡◌ {A = ℕ} 0 1 = cc (e) in absurd (omega arith)
named_to p route (Some asn) (l, e, n) =
    and_from (leb route.length p.max) (not (eqb p.asn 0) && eqb asn p.asn) (le-leb _ _ l)
    (and_from (not (eqb p.asn 0)) (eqb asn p.asn) (not_from_false (eqb p.asn 0) (ne_eqb p.asn 0 n)) (eq-eqb asn p.asn (some_same asn p.asn e)))

pub matches_decides : (p : Payload) (route : Prefix) (origin : Option ℕ) → Decides (matches p route origin) (Matches p route origin)
matches_decides p route origin = (
  (λ e.
      let u : (covers p route ≡ true) × (names p route origin ≡ true) = and_parts (covers p route) (names p route origin) e in
      let n : Named p route origin = named_from p route origin u.1 in
      record { covered = (covers_decides p route).0 u.0; within = n.0; same_as = n.1; not_zero = n.2 }),
  (λ m. and_from (covers p route) (names p route origin) ((covers_decides p route).1 m.covered) (named_to p route origin (m.within, m.same_as, m.not_zero))),
)

pub any_from : (f : Payload → Bool) (xs : List Payload) → any f xs ≡ true → (x : Payload) × Has xs x × (f x ≡ true)
any_from f [] h = absurd (both_ways false refl h)
any_from f (y ∷ xs) h = ⊎_elim (λ e. (y, has_here y xs, e)) (λ t. let r = any_from f xs t in (r.0, has_there y xs r.0 r.1, r.2)) (or_cases (f y) (any f xs) h)

pub any_to : (f : Payload → Bool) (xs : List Payload) (x : Payload) → Has xs x → f x ≡ true → any f xs ≡ true
any_to f [] x h e = absurd (none_has x h)
any_to f (y ∷ xs) x h e = ⊎_elim (λ s. or_left (f y) (any f xs) (ap f s ∙ e)) (λ t. or_right (f y) (any f xs) (any_to f xs x t e)) (has_cases y xs x h)

module _ (xs : List Payload) (route : Prefix) (origin : Option ℕ) where
  told : (m c : Bool) → any (λ p. matches p route origin) xs ≡ m → any (λ p. covers p route) xs ≡ c → Judged xs route origin (cond m Valid (cond c Invalid NotFound))
  told true c e f = let r = any_from (λ p. matches p route origin) xs e in (r.0, r.1, (matches_decides r.0 route origin).0 r.2)
  told false true e f = (
    (let r = any_from (λ p. covers p route) xs f in (r.0, r.1, (covers_decides r.0 route).0 r.2)),
    (λ p h m. both_ways _ e (any_to (λ p. matches p route origin) xs p h ((matches_decides p route origin).1 m))),
  )
  told false false e f = λ p h c. both_ways _ f (any_to (λ p. covers p route) xs p h ((covers_decides p route).1 c))

  pub judged_so : Judged xs route origin (verdict_of xs route origin)
  judged_so = told _ _ refl refl

  answered : (b : Bool) → lawful route ≡ b → Judgement xs route origin (cond b (Ok (verdict_of xs route origin)) (Err rule.Prefix))
  answered true e = (e, judged_so)
  answered false e = (e, refl)

  pub judgement : Judgement xs route origin (judged xs route origin)
  judgement = answered (lawful route) refl

-- what the call answers of a lawful route
pub answer : (xs ys : List Payload) (route : Prefix) (origin : Option ℕ) (v : Verdict) → lawful route ≡ true → ys ≡ xs → v ≡ verdict_of ys route origin → Ok v ≡ judged xs route origin
answer xs ys route origin v l e f =
    ap (λ (w : Verdict). Ok w) (f ∙ ap (λ (t : List Payload). verdict_of t route origin) e) ∙ sym (cond-true (lawful route) (Ok (verdict_of xs route origin)) (Err rule.Prefix) l)

pub by_judged : (xs : List Payload) (route : Prefix) (origin : Option ℕ) (r : Result Verdict Rule) → r ≡ judged xs route origin → Judgement xs route origin r
by_judged xs route origin r e = let P : Result Verdict Rule → Type 0 = Judgement xs route origin in subst P (sym e) (judgement xs route origin)
