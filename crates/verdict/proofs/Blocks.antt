-- The verdict by the payloads of the prefixes that cover a route. Assumes nothing.
use Rattle.std.proofs.Common.{◌≡◌, ℕ, ◌+◌, ◌-◌, ◌*◌, ◌/◌, ◌%◌, ◌^◌, ◌<◌, true, eqb, leb, List, Option, sym, refl, ap, ◌∙◌, subst, ⊎_elim, add-zero, arith}
use lib.Pow.{split}
use Rattle.std.specs.List.{ContainsAt as Has}
use Rattle.std.proofs.lemmas.Bool.{cases_lt, and_parts, eqb-true}
use Rattle.family.specs.declared.Family.{Family}
use Rattle.payload.specs.declared.Prefix.{Prefix}
use Rattle.payload.specs.declared.Payload.{Payload}
use Rattle.family.specs.Widths.{width}
use Rattle.payload.specs.Order.{cut, lawful, all_lawful}
use Rattle.payload.specs.Lists.{Around}
use Rattle.payload.proofs.Blocks.{lawful_has}
use Rattle.verdict.specs.declared.Verdict.{Verdict}
use Rattle.verdict.specs.declared.Verdict.TheVariants.{Valid, Invalid, NotFound}
use Rattle.verdict.specs.Routes.{front, Covers, Matches, Judged, verdict_of}
use Rattle.verdict.proofs.Verdicts.{judged_so}
use Rattle.verdict.proofs.Laws.{one_verdict}

same_prefix : (f g : Family) (a b l m : ℕ) → f ≡ g → a ≡ b → l ≡ m → ◌≡◌ {A = Prefix} (record { family = f; address = a; length = l }) (record { family = g; address = b; length = m })
same_prefix f g a b l m e h i = cc

-- a lawful payload that covers a route has the prefix of its length that the route lies in
pub cover_is : (p : Payload) (route : Prefix) (l : ℕ) → lawful p.prefix ≡ true → Covers p route → p.prefix.length ≡ l → p.prefix ≡ cut route l
cover_is p route l law c e =
    let n : ℕ = p.prefix.address in
    let k : ℕ = p.prefix.length in
    let z : n % 2 ^ (128 - k) ≡ 0 = eqb-true _ _ (and_parts (leb k (width p.prefix.family)) (eqb (n % 2 ^ (128 - k)) 0) law).1 in
    let whole : n ≡ front k n * 2 ^ (128 - k) = sym (split n (128 - k)) ∙ ap (λ (r : ℕ). n / 2 ^ (128 - k) * 2 ^ (128 - k) + r) z ∙ add-zero (n / 2 ^ (128 - k) * 2 ^ (128 - k)) in
    let same : front k n * 2 ^ (128 - k) ≡ front l route.address * 2 ^ (128 - l) = ap (λ (m : ℕ). m * 2 ^ (128 - k)) c.same_bits ∙ ap (λ (m : ℕ). front m route.address * 2 ^ (128 - m)) e in
    same_prefix p.prefix.family route.family n (front l route.address * 2 ^ (128 - l)) k l c.family (whole ∙ same) e

-- what is known once the lengths below one were looked at
pub record Seen (xs : List Payload) (route : Prefix) (origin : Option ℕ) (l : ℕ) (v : Verdict) : Type 0 where
  pub none_yet : v ≡ Valid → ⊥
  pub some : v ≡ Invalid → (p : Payload) × Has xs p × Covers p route
  pub rest : (p : Payload) → Has xs p → p.prefix.length < l → Covers p route → (v ≡ Invalid) × (Matches p route origin → ⊥)

apart₁ : NotFound ≡ Valid → ⊥
apart₁ e = let z : ◌≡◌ {A = ℕ} 0 1 = cc (e) in omega arith

apart₂ : NotFound ≡ Invalid → ⊥
apart₂ e = let z : ◌≡◌ {A = ℕ} 0 1 = cc (e) in omega arith

apart₃ : Invalid ≡ Valid → ⊥
apart₃ e = let z : ◌≡◌ {A = ℕ} 0 1 = cc (e) in omega arith

module _ (xs : List Payload) (route : Prefix) (origin : Option ℕ) where
  pub seen_none : Seen xs route origin 0 NotFound
  seen_none = record { none_yet = apart₁; some = λ e. absurd (apart₂ e); rest = λ p h l c. absurd (omega arith) }

  module _ (laws : all_lawful xs ≡ true) (l : ℕ) (q : Prefix) (ys : List Payload) (here : q ≡ cut route l) (part : Around q xs ys) where
    -- a payload of this length that covers the route is in the part
    inside : (p : Payload) → Has xs p → p.prefix.length ≡ l → Covers p route → Has ys p
    inside p h e c = part.every p h (cover_is p route l (lawful_has xs laws p h) c e ∙ sym here)

    at_valid : Judged ys route origin Valid → Valid ≡ verdict_of xs route origin
    at_valid j = one_verdict xs route origin Valid (verdict_of xs route origin) (j.0, part.only j.0 j.1, j.2) (judged_so xs route origin)

    at_invalid : (v : Verdict) → Judged ys route origin Invalid → Seen xs route origin l v → Seen xs route origin (l + 1) Invalid
    at_invalid v j s =
        record {
          none_yet = apart₃;
          some = λ _. (j.0.0, part.only j.0.0 j.0.1, j.0.2);
          rest = λ p h k c.
              ⊎_elim
              (λ less. (refl, (s.rest p h less c).1))
              (λ more. let e : p.prefix.length ≡ l = omega arith in (refl, λ m. j.1 p (inside p h e c) m))
              (cases_lt p.prefix.length l);
        }

    at_none : (v : Verdict) → Judged ys route origin NotFound → Seen xs route origin l v → Seen xs route origin (l + 1) v
    at_none v j s =
        record {
          none_yet = s.none_yet;
          some = s.some;
          rest = λ p h k c.
              ⊎_elim
              (λ less. s.rest p h less c)
              (λ more. let e : p.prefix.length ≡ l = omega arith in absurd (j p (inside p h e c) c))
              (cases_lt p.prefix.length l);
        }

    module _ (w : Verdict) (is : w ≡ verdict_of ys route origin) where
      judged_part : Judged ys route origin w
      judged_part = let P : Verdict → Type 0 = Judged ys route origin in subst P (sym is) (judged_so ys route origin)

      at_part : (u : Verdict) → w ≡ u → Judged ys route origin u
      at_part u e = let P : Verdict → Type 0 = Judged ys route origin in subst P e judged_part

      pub seen_valid : w ≡ Valid → Valid ≡ verdict_of xs route origin
      seen_valid e = at_valid (at_part Valid e)

      pub seen_invalid : (v : Verdict) → w ≡ Invalid → Seen xs route origin l v → Seen xs route origin (l + 1) Invalid
      seen_invalid v e s = at_invalid v (at_part Invalid e) s

      pub seen_not : (v : Verdict) → w ≡ NotFound → Seen xs route origin l v → Seen xs route origin (l + 1) v
      seen_not v e s = at_none v (at_part NotFound e) s

  judged_all : (v : Verdict) (l : ℕ) → route.length < l → Seen xs route origin l v → Judged xs route origin v
  judged_all Valid l k s = absurd (s.none_yet refl)
  judged_all Invalid l k s = (s.some refl, λ p h m. (s.rest p h (omega (arith, m.covered.no_longer)) m.covered).1 m)
  judged_all NotFound l k s = λ p h c. apart₂ (s.rest p h (omega (arith, c.no_longer)) c).0

  pub seen_all : (v : Verdict) (l : ℕ) → route.length < l → Seen xs route origin l v → v ≡ verdict_of xs route origin
  seen_all v l k s = one_verdict xs route origin v (verdict_of xs route origin) (judged_all v l k s) (judged_so xs route origin)
