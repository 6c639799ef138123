-- The numbers that groups of 16 bits write fit 128 bits. Assumes nothing.
use Rattle.std.proofs.Common.{◌≡◌, ℕ, ◌+◌, ◌-◌, ◌*◌, ◌%◌, ◌^◌, ◌<◌, ◌≤◌, Bool, cond, List, Some, None, sym, refl, ap, ◌∙◌, subst, add-mul, one-mul, zero-mul, add-one, arith, pow_mono}
use Rattle.std.proofs.lemmas.Nat.{pow-add, mul-le, shl_whole}
use Rattle.std.proofs.lemmas.Bool.{le-ltb}
use Rattle.route_text.specs.Pieces.{Run, joined, group_of, past_colon, with_group, groups_of}

pub step_fits : (v n g : ℕ) → v < 2 ^ (16 * n) → g < 65536 → v * 65536 + g < 2 ^ (16 * (n + 1))
step_fits v n g l k =
    let p : ℕ = 2 ^ (16 * n) in
    let e : 16 * (n + 1) ≡ 16 * n + 16 = omega arith in
    let f : 2 ^ (16 * (n + 1)) ≡ p * 65536 = ap (λ (x : ℕ). 2 ^ x) e ∙ pow-add 2 (16 * n) 16 in
    let l' : v < p = l in
    omega arith

pub step_whole : (v n g : ℕ) → v < 2 ^ (16 * n) → n < 8 → g < 65536 → v * 65536 + g < 2 ^ 128
step_whole v n g l k h =
    let a : v * 65536 + g < 2 ^ (16 * (n + 1)) = step_fits v n g l h in
    let b : 2 ^ (16 * (n + 1)) ≤ 2 ^ 128 = pow_mono {i = 16 * (n + 1)} {j = 128} (omega arith) in
    omega arith

pub join_shift : (v n : ℕ) → v < 2 ^ (16 * n) → n ≤ 8 → (v * 2 ^ (128 - 16 * n)) % 2 ^ 128 ≡ v * 2 ^ (128 - 16 * n)
join_shift v n l k = shl_whole v (16 * n) (128 - 16 * n) 128 l (omega arith)

pub join_fits : (v n w m : ℕ) → v < 2 ^ (16 * n) → w < 2 ^ (16 * m) → n + m ≤ 7 → v * 2 ^ (128 - 16 * n) + w < 2 ^ 128
join_fits v n w m l k h =
    let p : ℕ = 2 ^ (128 - 16 * n) in
    let s : 16 * n + (128 - 16 * n) ≡ 128 = omega arith in
    let a : (v + 1) * p ≤ 2 ^ (16 * n) * p = mul-le (v + 1) p (2 ^ (16 * n)) p (omega arith) (omega arith) in
    let b : 2 ^ (16 * n) * p ≡ 2 ^ 128 = sym (pow-add 2 (16 * n) (128 - 16 * n)) ∙ ap (λ (x : ℕ). 2 ^ x) s in
    let c : (v + 1) * p ≡ v * p + 1 * p = add-mul v 1 p in
    let d : 1 * p ≡ p = one-mul p in
    let f : 2 ^ (16 * m) ≤ p = pow_mono {i = 16 * m} {j = 128 - 16 * n} (omega arith) in
    omega arith

-- what joining groups answers
pub join_is : (h t : Run) (a : ℕ) → h.0 < 2 ^ (16 * h.1) → h.1 + t.1 ≤ 7 → a ≡ (h.0 * 2 ^ (128 - 16 * h.1)) % 2 ^ 128 + t.0 → Some (a, t.2) ≡ joined h t
join_is h t a l k e =
    let f : a ≡ h.0 * 2 ^ (128 - 16 * h.1) + t.0 = e ∙ ap (λ (x : ℕ). x + t.0) (join_shift h.0 h.1 l (omega arith)) in
    ap (λ (x : ℕ). Some (x, t.2)) f ∙ sym (ap (λ (b : Bool). cond b None (Some (h.0 * 2 ^ (128 - 16 * h.1) + t.0, t.2))) (le-ltb 7 (h.1 + t.1) k))

pub join_zero : (h t : Run) → h.0 < 2 ^ (16 * h.1) → h.1 + t.1 ≤ 7 → h.1 ≡ 0 → Some (t.0, t.2) ≡ joined h t
join_zero h t l k z =
    let v : h.0 < 1 = let P : ℕ → Type 0 = λ n. h.0 < 2 ^ (16 * n) in subst P z l in
    let w : h.0 ≡ 0 = omega arith in
    let f : t.0 ≡ h.0 * 2 ^ (128 - 16 * h.1) + t.0 = omega (arith, ap (λ (n : ℕ). n * 2 ^ (128 - 16 * h.1)) w, zero-mul (2 ^ (128 - 16 * h.1))) in
    ap (λ (x : ℕ). Some (x, t.2)) f ∙ sym (ap (λ (b : Bool). cond b None (Some (h.0 * 2 ^ (128 - 16 * h.1) + t.0, t.2))) (le-ltb 7 (h.1 + t.1) k))

-- one group more
pub group_more : (r : Run) (g : ℕ × List ℕ) (t : List ℕ) → Some g ≡ group_of r.2 → t ≡ past_colon g.1 → (r.0 * 65536 + g.0, r.1 + 1, t) ≡ with_group r (group_of r.2)
group_more r g t e f = ap (λ (u : List ℕ). (r.0 * 65536 + g.0, r.1 + 1, u)) f ∙ ap (with_group r) e

pub groups_none : (s : List ℕ) → (0, 0, s) ≡ groups_of 0 s
unfolding groups_of
groups_none s = refl

pub groups_more : (k : ℕ) (s : List ℕ) (r t : Run) → r ≡ groups_of k s → t ≡ with_group r (group_of r.2) → t ≡ groups_of (k + 1) s
unfolding groups_of
groups_more k s r t e f = rw add-one (f ∙ ap (λ (u : Run). with_group u (group_of u.2)) e)
