-- What a list has: its first, or what the rest has. Assumes nothing.
use Rattle.std.proofs.Common.{◌≡◌, ℕ, zero, suc, ◌<◌, ◌⊎◌, List, [], ◌∷◌, length, get_or, refl, inl, inr, arith}
use Rattle.std.specs.List.{ContainsAt as Has}

module _ {X : Type 0} where
  pub has_cases : (y : X) (ys : List X) (x : X) → Has (y ∷ ys) x → (y ≡ x) ⊎ Has ys x
  has_cases y ys x (k, l, at) = go k l at
    where
      go : (k : ℕ) → k < length (y ∷ ys) → ((d : X) → get_or (y ∷ ys) k d ≡ x) → (y ≡ x) ⊎ Has ys x
      go zero l at = inl (at y)
      go (suc k) l at = inr (k, omega arith, at)

  pub has_here : (y : X) (ys : List X) → Has (y ∷ ys) y
  has_here y ys = (0, omega arith, λ d. refl)

  pub has_there : (y : X) (ys : List X) (x : X) → Has ys x → Has (y ∷ ys) x
  has_there y ys x h = (suc h.0, omega arith, h.2)

  pub none_has : (x : X) → Has [] x → ⊥
  none_has x h = omega arith
