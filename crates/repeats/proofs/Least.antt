-- The least number of a spot whose octets are those of the spot before it. Assumes nothing.
use Rattle.std.proofs.Common.{◌≡◌, ℕ, zero, suc, ◌<◌, ◌≤◌, Bool, true, false, cond, ltb, ◌⊎◌, List, [], ◌∷◌, length, get_or, Some, None, Decides, Option, sym, refl, ◌∙◌, inl, inr, arith, MatchOption}
use Rattle.std.specs.Str.{bytes_eq}
use Rattle.std.proofs.lemmas.Slice.Eq.{bytes_eq-Decides}
use Rattle.std.proofs.lemmas.Bool.{ltb-true, ltb-false, both_ways}
use Rattle.repeats.specs.declared.Spot.{Spot}
use Rattle.repeats.specs.Repeats.{key_of, lesser, with_next, least_after}

-- a spot of this number follows one of the same octets
abbrev pub Nexts : Spot → List Spot → ℕ → Type 0
Nexts p [] n = ⊥
Nexts p (s ∷ ss) n = ((key_of p ≡ key_of s) × (s.index ≡ n)) ⊎ Nexts s ss n

-- the same, by places
abbrev pub NextAt : Spot → List Spot → ℕ → ℕ → Type 0
NextAt d ss k n = (suc k < length ss) × (key_of (get_or ss k d) ≡ key_of (get_or ss (suc k) d)) × ((get_or ss (suc k) d).index ≡ n)

pub nexts_from_place : (p : Spot) (ss : List Spot) (k n : ℕ) (d : Spot) → NextAt d (p ∷ ss) k n → Nexts p ss n
nexts_from_place p [] k n d h = let l : suc k < suc zero = h.0 in absurd (omega arith)
nexts_from_place p (s ∷ ss) zero n d h = inl (h.1, h.2)
nexts_from_place p (s ∷ ss) (suc k) n d h =
    let l : suc (suc k) < suc (length (s ∷ ss)) = h.0 in
    inr (nexts_from_place s ss k n d (omega arith, h.1, h.2))

pub place_from_nexts : (p : Spot) (ss : List Spot) (n : ℕ) (d : Spot) → Nexts p ss n → (k : ℕ) × NextAt d (p ∷ ss) k n
place_from_nexts p [] n d h = absurd h
place_from_nexts p (s ∷ ss) n d (inl h) = (zero, (omega arith, h.0, h.1))
place_from_nexts p (s ∷ ss) n d (inr h) =
    let r = place_from_nexts s ss n d h in
    let l : suc r.0 < length (s ∷ ss) = r.1.0 in
    (suc r.0, (omega arith, r.1.1, r.1.2))

-- the number is the best so far or that of such a spot
abbrev pub Found : Option ℕ → Spot → List Spot → ℕ → Type 0
Found best p ss n = (best ≡ Some n) ⊎ Nexts p ss n

some_same : (m n : ℕ) → ◌≡◌ {A = Option ℕ} (Some m) (Some n) → m ≡ n
some_same m n e = cc

none_some : (n : ℕ) → ◌≡◌ {A = Option ℕ} None (Some n) → ⊥
none_some n e = let z : ◌≡◌ {A = ℕ} 0 1 = cc in omega arith

lesser_of : (t : Bool) (m n : ℕ) → (◌≡◌ {A = Option ℕ} (Some m) (Some (cond t m n))) ⊎ (cond t m n ≡ n)
lesser_of true m n = inl refl
lesser_of false m n = inr refl

lesser_or : (b : Option ℕ) (i : ℕ) → (b ≡ Some (lesser b i)) ⊎ (lesser b i ≡ i)
lesser_or None i = inr refl
lesser_or (Some m) i = lesser_of (ltb m i) m i

less_both : (t : Bool) (m i : ℕ) → ltb m i ≡ t → (cond t m i ≤ m) × (cond t m i ≤ i)
less_both true m i e = let l : m < i = ltb-true m i e in (omega arith, omega arith)
less_both false m i e = let l : i ≤ m = ltb-false m i e in (omega arith, omega arith)

lesser_best : (b : Option ℕ) (i n : ℕ) → b ≡ Some n → lesser b i ≤ n
lesser_best None i n e = absurd (none_some n e)
lesser_best (Some m) i n e =
    let q : m ≡ n = some_same m n e in
    let l : lesser (Some m) i ≤ m = (less_both (ltb m i) m i refl).0 in omega arith

lesser_new : (b : Option ℕ) (i : ℕ) → lesser b i ≤ i
lesser_new None i = omega arith
lesser_new (Some m) i = (less_both (ltb m i) m i refl).1

-- the number that is found, and no lesser one is
abbrev pub IsLeast : Option ℕ → (ℕ → Type 0) → Type 0
IsLeast r P = MatchOption r ((n : ℕ) → P n → ⊥) (λ m. P m × ((n : ℕ) → P n → m ≤ n))

is_least : (r : Option ℕ) (P Q : ℕ → Type 0) → ((n : ℕ) → P n → Q n) → ((n : ℕ) → Q n → (m : ℕ) × (m ≤ n) × P m) → IsLeast r P → IsLeast r Q
is_least None P Q f g h = λ n q. let w = g n q in h w.0 w.2
is_least (Some m) P Q f g h = (f m h.0, λ n q. let w = g n q in let a = h.1 w.0 w.2 in let b = w.1 in omega arith)

back : (t : Bool) (best : Option ℕ) (p s : Spot) (ss : List Spot) → Decides t (key_of p ≡ key_of s) → (n : ℕ) → Found (cond t (Some (lesser best s.index)) best) s ss n → Found best p (s ∷ ss) n
back t best p s ss d n (inr h) = inr (inr h)
back true best p s ss d n (inl e) =
    let q : lesser best s.index ≡ n = some_same _ _ e in
    elim (lesser_or best s.index) [ inl a ↦ inl (a ∙ e) | inr a ↦ inr (inl (d.0 refl, sym a ∙ q)) ]
back false best p s ss d n (inl e) = inl e

forth : (t : Bool) (best : Option ℕ) (p s : Spot) (ss : List Spot) → Decides t (key_of p ≡ key_of s) → (n : ℕ) → Found best p (s ∷ ss) n → (m : ℕ) × (m ≤ n) × Found (cond t (Some (lesser best s.index)) best) s ss m
forth t best p s ss d n (inr (inr h)) = (n, omega arith, inr h)
forth true best p s ss d n (inl e) = (lesser best s.index, lesser_best best s.index n e, inl refl)
forth true best p s ss d n (inr (inl h)) =
    let l = lesser_new best s.index in
    let q : s.index ≡ n = h.1 in
    (lesser best s.index, omega arith, inl refl)
forth false best p s ss d n (inl e) = (n, omega arith, inl e)
forth false best p s ss d n (inr (inl h)) = absurd (both_ways false refl (d.1 h.0))

pub least_is : (best : Option ℕ) (p : Spot) (ss : List Spot) → IsLeast (least_after best p ss) (Found best p ss)
least_is None p [] = λ n h. elim h [ inl e ↦ none_some n e | inr x ↦ x ]
least_is (Some b) p [] = (inl refl, λ n h. elim h [ inl e ↦ (let q : b ≡ n = some_same b n e in omega arith) | inr x ↦ absurd x ])
least_is best p (s ∷ ss) =
    let t = bytes_eq (key_of p) (key_of s) in
    let d = bytes_eq-Decides (key_of p) (key_of s) in
    is_least (least_after best p (s ∷ ss)) (Found (with_next best p s) s ss) (Found best p (s ∷ ss)) (back t best p s ss d) (forth t best p s ss d) (least_is (with_next best p s) s ss)
