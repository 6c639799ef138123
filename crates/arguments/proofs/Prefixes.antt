-- What follows a prefix. Assumes nothing.
use Rattle.std.proofs.Common.{◌≡◌, ℕ, Bool, cond, eqb, List, [], ◌∷◌, ◌++◌, Some, None, Option, sym, refl, ap, ◌∙◌, inl, inr, arith, Bor, MatchOption}
use Rattle.std.specs.Option.{option_map}
use Rattle.std.proofs.lemmas.Bool.{cases_Bool, eqb-true, eq-eqb}
use Rattle.arguments.specs.Arguments.{stripped}

-- what follows a prefix
pub stripped_own : (p w : List ℕ) → stripped p (p ++ w) ≡ Some w
stripped_own [] w = refl
stripped_own (c ∷ p) w = ap (λ (t : Bool). cond t (stripped p (p ++ w)) None) (eq-eqb c c refl) ∙ stripped_own p w

pub stripped_inv : (p w r : List ℕ) → stripped p w ≡ Some r → w ≡ p ++ r
stripped_inv [] w r e = cc
stripped_inv (c ∷ p) [] r e = let z : ◌≡◌ {A = ℕ} 0 1 = cc in absurd (omega arith)
stripped_inv (c ∷ p) (x ∷ w) r e = elim (cases_Bool (eqb x c)) [
  | inl t ↦
      let f : stripped p w ≡ Some r = sym (ap (λ (b : Bool). cond b (stripped p w) None) t) ∙ e in
      ap (λ (n : ℕ). n ∷ w) (eqb-true x c t) ∙ ap (λ (l : List ℕ). c ∷ l) (stripped_inv p w r f)
  | inr t ↦
      let f : None ≡ Some r = sym (ap (λ (b : Bool). cond b (stripped p w) None) t) ∙ e in
      let z : ◌≡◌ {A = ℕ} 0 1 = cc in
      absurd (omega arith)
]

none_is : (o : Option (List ℕ)) → ((r : List ℕ) → o ≡ Some r → ⊥) → None ≡ o
none_is None h = refl
none_is (Some r) h = absurd (h r refl)

pub stripped_is : (p w : List ℕ) (o : Option (Bor (List ℕ))) → MatchOption o ((rest : List ℕ) → w ≡ p ++ rest → ⊥) (λ x. w ≡ p ++ x.now) → option_map (λ x. x.now) o ≡ stripped p w
stripped_is p w None h = none_is (stripped p w) (λ r e. h r (stripped_inv p w r e))
stripped_is p w (Some x) h = sym (ap (stripped p) h ∙ stripped_own p x.now)
