-- An IPv6 address in print is read as itself. Assumes nothing.
use Rattle.std.proofs.Common.{◌≡◌, ℕ, zero, suc, ◌+◌, ◌-◌, ◌*◌, ◌/◌, ◌%◌, ◌^◌, ◌<◌, ◌≤◌, Bool, true, false, cond, not, ◌&&◌, leb, List, ◌∷◌, ◌++◌, is_some, Some, None, Option, sym, refl, ap, ◌∙◌, ap₂, inl, inr, arith}
use lib.Pow.{split}
use Rattle.std.proofs.lemmas.Nat.{shr-shr}
use Rattle.std.proofs.lemmas.Bool.{cases_lt, le-leb, lt-leb, lt-ltb, le-ltb}
use Rattle.hex_text.specs.Digits.{nibble_of}
use Rattle.listing.specs.Texts.{hex_digit, group_at, group_text, groups_text, ipv6_text}
use Rattle.listing.proofs.Addresses.{groups_open, groups_first, ipv6_open}
use Rattle.route_text.specs.Pieces.{grow_by, grow, grow_on, four_of, starts_hex, group_of, past_colon, Run, with_group, groups_of, six_from, six_of}

nibble_low : (n : ℕ) → n < 10 → nibble_of (n + 48) ≡ Some n
nibble_low n l =
    let a : leb 48 (n + 48) ≡ true = le-leb 48 (n + 48) (omega arith) in
    let b : leb (n + 48) 57 ≡ true = le-leb (n + 48) 57 (omega arith) in
    let d : n + 48 - 48 ≡ n = omega arith in
    ap₂ (λ (x y : Bool). cond (x && y) (Some (n + 48 - 48)) (cond (leb 97 (n + 48) && leb (n + 48) 102) (Some (n + 48 - 87)) (cond (leb 65 (n + 48) && leb (n + 48) 70) (Some (n + 48 - 55)) None))) a b
    ∙ ap (λ (m : ℕ). Some m) d

nibble_high : (n : ℕ) → 10 ≤ n → n < 16 → nibble_of (n + 87) ≡ Some n
nibble_high n l k =
    let a : leb 48 (n + 87) ≡ true = le-leb 48 (n + 87) (omega arith) in
    let b : leb (n + 87) 57 ≡ false = lt-leb (n + 87) 57 (omega arith) in
    let f : leb 97 (n + 87) ≡ true = le-leb 97 (n + 87) (omega arith) in
    let g : leb (n + 87) 102 ≡ true = le-leb (n + 87) 102 (omega arith) in
    let d : n + 87 - 87 ≡ n = omega arith in
    let rest : Option ℕ = cond (leb 65 (n + 87) && leb (n + 87) 70) (Some (n + 87 - 55)) None in
    ap₂ (λ (x y : Bool). cond (x && y) (Some (n + 87 - 48)) (cond (leb 97 (n + 87) && leb (n + 87) 102) (Some (n + 87 - 87)) rest)) a b
    ∙ ap₂ (λ (x y : Bool). cond (x && y) (Some (n + 87 - 87)) rest) f g
    ∙ ap (λ (m : ℕ). Some m) d

nibble_digit : (n : ℕ) → n < 16 → nibble_of (hex_digit n) ≡ Some n
nibble_digit n l = elim (cases_lt n 10) [
  | inl k ↦ ap (λ (b : Bool). nibble_of (cond b (n + 48) (n + 87))) (lt-ltb n 10 k) ∙ nibble_low n k
  | inr k ↦ ap (λ (b : Bool). nibble_of (cond b (n + 48) (n + 87))) (le-ltb n 10 k) ∙ nibble_high n k l
]

grow_one : (v n : ℕ) (u : List ℕ) → n < 16 → grow v (hex_digit n ∷ u) ≡ (v * 16 + n, u)
unfolding grow
grow_one v n u l = ap (grow_by v (hex_digit n) u) (nibble_digit n l)

-- a group in print
group_reads : (g : ℕ) (u : List ℕ) → g < 65536 → starts_hex u ≡ false → group_of (group_text g ++ u) ≡ Some (g, u)
unfolding group_of four_of group_text
group_reads g u l e =
    let d₀ : ℕ = g / 4096 in
    let d₁ : ℕ = g / 256 % 16 in
    let d₂ : ℕ = g / 16 % 16 in
    let d₃ : ℕ = g % 16 in
    let s₃ : List ℕ = hex_digit d₃ ∷ u in
    let s₂ : List ℕ = hex_digit d₂ ∷ s₃ in
    let s₁ : List ℕ = hex_digit d₁ ∷ s₂ in
    let s : List ℕ = hex_digit d₀ ∷ s₁ in
    let v : (((0 * 16 + d₀) * 16 + d₁) * 16 + d₂) * 16 + d₃ ≡ g = omega arith in
    let f : four_of s ≡ (g, u) =
    ap (λ (p : ℕ × List ℕ). grow_on (grow_on (grow_on p))) (grow_one 0 d₀ s₁ (omega arith))
    ∙ ap (λ (p : ℕ × List ℕ). grow_on (grow_on p)) (grow_one (0 * 16 + d₀) d₁ s₂ (omega arith))
    ∙ ap (λ (p : ℕ × List ℕ). grow_on p) (grow_one ((0 * 16 + d₀) * 16 + d₁) d₂ s₃ (omega arith))
    ∙ grow_one (((0 * 16 + d₀) * 16 + d₁) * 16 + d₂) d₃ u (omega arith)
    ∙ ap (λ (n : ℕ). (n, u)) v in
    let h : starts_hex s ≡ true = ap (λ (o : Option ℕ). is_some o) (nibble_digit d₀ (omega arith)) in
    ap (λ (b : Bool). cond (b && not (starts_hex (four_of s).1)) (Some (four_of s)) None) h
    ∙ ap (λ (p : ℕ × List ℕ). cond (not (starts_hex p.1)) (Some p) None) f
    ∙ ap (λ (b : Bool). cond (not b) (Some (g, u)) None) e

group_hex : (g : ℕ) (u : List ℕ) → g < 65536 → starts_hex (group_text g ++ u) ≡ true
unfolding group_text
group_hex g u l = ap (λ (o : Option ℕ). is_some o) (nibble_digit (g / 4096) (omega arith))

past_hex : (u : List ℕ) → starts_hex u ≡ true → past_colon (58 ∷ u) ≡ u
unfolding past_colon
past_hex u h = ap (λ (b : Bool). cond b u (58 ∷ u)) h

-- the front of an address by one group more
front_more : (a m : ℕ) → a / 2 ^ (m + 16) * 65536 + a / 2 ^ m % 65536 ≡ a / 2 ^ m
front_more a m = ap (λ (x : ℕ). x * 65536 + a / 2 ^ m % 65536) (sym (shr-shr a m 16)) ∙ split (a / 2 ^ m) 16

pub low : (a k : ℕ) → group_at k a < 65536
low a k = omega arith

run_reads : (k a g : ℕ) (v : List ℕ) → k ≤ 7 → a < 2 ^ 128 → g < 65536 → groups_of k (groups_text k a ++ (group_text g ++ v)) ≡ (a / 2 ^ (128 - 16 * k), k, group_text g ++ v)
unfolding groups_of
run_reads zero a g v l f h =
    let z : a / 2 ^ 128 ≡ 0 = omega arith in
    ap (λ (t : List ℕ). (0, 0, t)) (groups_first a (group_text g ++ v)) ∙ ap (λ (n : ℕ). (n, 0, group_text g ++ v)) (sym z)
run_reads (suc k) a g v l f h =
    let w : List ℕ = group_text g ++ v in
    let o : ℕ = group_at k a in
    let s : List ℕ = group_text o ++ (58 ∷ w) in
    let m : ℕ = 112 - 16 * k in
    let i : groups_of k (groups_text k a ++ s) ≡ (a / 2 ^ (128 - 16 * k), k, s) = run_reads k a o (58 ∷ w) (omega arith) f (low a k) in
    let r : Run = (a / 2 ^ (128 - 16 * k), k, s) in
    let n₀ : 128 - 16 * k ≡ m + 16 = omega arith in
    let n₁ : 128 - 16 * suc k ≡ m = omega arith in
    let v₁ : a / 2 ^ (128 - 16 * k) * 65536 + o ≡ a / 2 ^ (128 - 16 * suc k) =
    ap (λ (x : ℕ). a / 2 ^ x * 65536 + o) n₀ ∙ front_more a m ∙ ap (λ (x : ℕ). a / 2 ^ x) (sym n₁) in
    let c : k + 1 ≡ suc k = omega arith in
    ap (groups_of (suc k)) (groups_open k a w)
    ∙ ap (λ (x : Run). with_group x (group_of x.2)) i
    ∙ ap (with_group r) (group_reads o (58 ∷ w) (low a k) refl)
    ∙ ap (λ (t : List ℕ). (a / 2 ^ (128 - 16 * k) * 65536 + o, k + 1, t)) (past_hex w (group_hex g v h))
    ∙ ap₂ (λ (x y : ℕ). (x, y, w)) v₁ c

-- a text that begins with neither a digit nor ":"
pub record Stops (u : List ℕ) : Type 0 where
  pub hex : starts_hex u ≡ false
  pub colon : past_colon u ≡ u

pub ipv6_reads : (a : ℕ) (u : List ℕ) → a < 2 ^ 128 → Stops u → six_of (ipv6_text a ++ u) ≡ Some (a, u)
unfolding groups_of
ipv6_reads a u f st =
    let o : ℕ = group_at 7 a in
    let s : List ℕ = group_text o ++ u in
    let r : Run = (a / 2 ^ 16, 7, s) in
    let v : a / 2 ^ 16 * 65536 + o ≡ a = front_more a 0 ∙ omega arith in
    let e : groups_of 8 (ipv6_text a ++ u) ≡ (a, 8, u) =
    ap (groups_of 8) (ipv6_open a u)
    ∙ ap (λ (x : Run). with_group x (group_of x.2)) (run_reads 7 a o u (omega arith) f (low a 7))
    ∙ ap (with_group r) (group_reads o u (low a 7) st.hex)
    ∙ ap₂ (λ (x : ℕ) (t : List ℕ). (x, 8, t)) v st.colon in
    ap six_from e
