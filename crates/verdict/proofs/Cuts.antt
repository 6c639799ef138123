-- A payload covers a route where the fronts of both are one prefix. Assumes nothing.
use Rattle.std.proofs.Common.{◌≡◌, ℕ, ◌-◌, ◌*◌, ◌^◌, ◌≤◌, Bool, true, false, ◌&&◌, eqb, leb, sym, refl, ap, ap₂, ◌∙◌, pow_pos}
use Rattle.std.proofs.Math.Nat.{eq_of_mul-eq-mul_right}
use Rattle.std.proofs.lemmas.Bool.{le-leb, eq-eqb}
use Rattle.std.proofs.lemmas.Bool.Decides.{same_from_decides, Decides-eqb}
use Rattle.family.specs.declared.Family.{Family}
use Rattle.family.specs.declared.Family.TheVariants.{Ipv4, Ipv6}
use Rattle.family.specs.contracts.FamilyPartialEq.TheImpl as families
use Rattle.payload.specs.declared.Prefix.{Prefix}
use Rattle.payload.specs.declared.Payload.{Payload}
use Rattle.payload.specs.Order.{cut}
use Rattle.verdict.specs.Routes.{front, same_family, covers}

alike : (f g : Family) → families.ghosts.eq f g ≡ same_family f g
alike Ipv4 Ipv4 = refl
alike Ipv4 Ipv6 = refl
alike Ipv6 Ipv4 = refl
alike Ipv6 Ipv6 = refl

-- two fronts with the same count of zeros after them
fronts : (a b k : ℕ) → eqb (a * 2 ^ k) (b * 2 ^ k) ≡ eqb a b
fronts a b k =
    same_from_decides _ _ (Decides-eqb (a * 2 ^ k) (b * 2 ^ k))
    ((λ e. ap (λ (n : ℕ). n * 2 ^ k) ((Decides-eqb a b).0 e)), (λ e. (Decides-eqb a b).1 (eq_of_mul-eq-mul_right (2 ^ k) (pow_pos k) a b e)))

turned : (x y l m : Bool) → l ≡ true → m ≡ true → (x && (y && m)) ≡ (x && (l && y))
turned false y l m e f = refl
turned true true l m e f = f ∙ sym (ap (λ (b : Bool). b && true) e)
turned true false l m e f = sym (ap (λ (b : Bool). b && false) e)

-- the derived comparison of two prefixes
abbrev pub same_prefixes : Prefix → Prefix → Bool
same_prefixes u v = families.ghosts.eq u.family v.family && (eqb u.address v.address && eqb u.length v.length)

pub covered : (p : Payload) (route u v : Prefix) (t : Bool) → p.prefix.length ≤ route.length → u ≡ cut p.prefix p.prefix.length → v ≡ cut route p.prefix.length → t ≡ same_prefixes u v → t ≡ covers p route
covered p route u v t l e f s =
    let k : ℕ = p.prefix.length in
    let a : ℕ = front k p.prefix.address in
    let b : ℕ = front k route.address in
    s ∙ ap₂ same_prefixes e f
    ∙ ap₂ (λ (x y : Bool). x && (y && eqb k k)) (alike p.prefix.family route.family) (fronts a b (128 - k))
    ∙ turned (same_family p.prefix.family route.family) (eqb a b) (leb k route.length) (eqb k k) (le-leb _ _ l) (eq-eqb k k refl)
