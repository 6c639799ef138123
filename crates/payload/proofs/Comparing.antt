-- The derived order of payloads is the order by ranks. Assumes nothing.
use Rattle.std.proofs.Common.{◌≡◌, ℕ, ◌+◌, ◌*◌, ◌^◌, ◌<◌, ◌≤◌, Ordering, Less, Equal, Greater, arith, refl, subst, sym, mul-le-mul_right}
use Rattle.std.specs.Ordering.{MatchOrdering, nat_cmp, ordering_then}
use Rattle.std.proofs.lemmas.Cmp.{ranked}
use Rattle.family.specs.declared.Family.{Family}
use Rattle.family.specs.declared.Family.TheVariants.{Ipv4, Ipv6}
use Rattle.family.specs.contracts.FamilyOrd.TheImpl as families
use Rattle.payload.specs.declared.Payload.{Payload}
use Rattle.payload.specs.Order.{family_rank, rank}

-- what an answer says of two numbers
abbrev pub Ranked : Ordering → ℕ → ℕ → Type 0
Ranked r x y = MatchOrdering r (x < y) (x ≡ y) (y < x)

-- the first numbers decide, and then the second, as the digits of one number
then_ranked : (base a b m n : ℕ) (o p : Ordering) → m < base → n < base → Ranked o a b → Ranked p m n → Ranked (ordering_then o p) (a * base + m) (b * base + n)
then_ranked base a b m n Less p l k h u = let e : (a + 1) * base ≤ b * base = mul-le-mul_right base (omega arith) in grind arith
then_ranked base a b m n Greater p l k h u = let e : (b + 1) * base ≤ a * base = mul-le-mul_right base (omega arith) in grind arith
then_ranked base a b m n Equal Less l k h u = rw h (omega arith)
then_ranked base a b m n Equal Equal l k h u = rw h (omega arith)
then_ranked base a b m n Equal Greater l k h u = rw h (omega arith)

-- the same numbers, written otherwise
ranked_as : (r : Ordering) (x y u v : ℕ) → u ≡ x → v ≡ y → Ranked r x y → Ranked r u v
ranked_as Less x y u v e f h = omega arith
ranked_as Equal x y u v e f h = omega arith
ranked_as Greater x y u v e f h = omega arith

ranked_families : (f g : Family) → Ranked (families.ghosts.cmp f g) (family_rank f) (family_rank g)
ranked_families Ipv4 Ipv4 = refl
ranked_families Ipv4 Ipv6 = omega arith
ranked_families Ipv6 Ipv4 = omega arith
ranked_families Ipv6 Ipv6 = refl

-- each part of a payload fits its type
pub record Fitting (p : Payload) : Type 0 where
  pub address : p.prefix.address < 2 ^ 128
  pub length : p.prefix.length < 2 ^ 8
  pub max : p.max < 2 ^ 8
  pub asn : p.asn < 2 ^ 32

-- the comparison of two payloads part by part
abbrev pub by_parts : Payload → Payload → Ordering
by_parts p q =
    ordering_then
    (ordering_then (families.ghosts.cmp p.prefix.family q.prefix.family)
    (ordering_then (nat_cmp p.prefix.address q.prefix.address) (nat_cmp p.prefix.length q.prefix.length)))
    (ordering_then (nat_cmp p.max q.max) (nat_cmp p.asn q.asn))

-- a number that is written in parts as rank is
rank_by_parts : (p : Payload) → rank p ≡ (family_rank p.prefix.family * 2 ^ 136 + (p.prefix.address * 2 ^ 8 + p.prefix.length)) * 2 ^ 40 + (p.max * 2 ^ 32 + p.asn)
rank_by_parts p = omega arith

pub ranked_parts : (p q : Payload) → Fitting p → Fitting q → (r : Ordering) → r ≡ by_parts p q → Ranked r (rank p) (rank q)
ranked_parts p q f g r e =
    let P : Ordering → Type 0 = λ o. Ranked o (rank p) (rank q) in
    subst P (sym e)
    (ranked_as (by_parts p q) _ _ _ _ (rank_by_parts p) (rank_by_parts q)
    (then_ranked (2 ^ 40) _ _ _ _ _ _ (omega (arith, f.max, f.asn)) (omega (arith, g.max, g.asn))
    (then_ranked (2 ^ 136) _ _ _ _ _ _ (omega (arith, f.address, f.length)) (omega (arith, g.address, g.length))
    (ranked_families p.prefix.family q.prefix.family)
    (then_ranked (2 ^ 8) _ _ _ _ _ _ f.length g.length (ranked p.prefix.address q.prefix.address _ refl) (ranked p.prefix.length q.prefix.length _ refl)))
    (then_ranked (2 ^ 32) _ _ _ _ _ _ f.asn g.asn (ranked p.max q.max _ refl) (ranked p.asn q.asn _ refl))))
