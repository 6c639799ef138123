-- Powers of 2 and of 256. Assumes nothing.
use Rattle.std.proofs.Common.{◌≡◌, ℕ, zero, suc, ◌+◌, ◌-◌, ◌*◌, ◌/◌, ◌%◌, ◌^◌, ◌<◌, ◌≤◌, sym, refl, ap, ◌∙◌, subst, mul-le-mul_right, pow-suc, add-one, arith, pow-add}
use native.Mathlib.Nat.{pow-le-pow_right}
use lib.Pow.{mod-mod-pow}
use Rattle.std.proofs.lemmas.Nat.{shr_split, shr_below, shl-shr}

pub pow256 : (k : ℕ) → 256 ^ k ≡ 2 ^ (8 * k)
pow256 zero = refl
pow256 (suc k) =
    let e : 8 * k + 8 ≡ 8 * suc k = omega arith in
    pow-suc 256 k ∙ ap (λ x. x * 256) (pow256 k) ∙ sym (pow-add 2 (8 * k) 8) ∙ ap (λ x. 2 ^ x) e

-- a width of whole octets
pub pow_width : (w : ℕ) → w % 8 ≡ 0 → 256 ^ (w / 8) ≡ 2 ^ w
pow_width w h = let e : 8 * (w / 8) ≡ w = omega arith in pow256 (w / 8) ∙ ap (λ x. 2 ^ x) e

pub below_all : (a i k : ℕ) → a < 256 ^ i → i ≤ k → a < 256 ^ k
below_all a i k h l = let p : 256 ^ i ≤ 256 ^ k = pow-le-pow_right (omega arith) l in omega arith

pub below_more : (a i x : ℕ) → a < 256 ^ i → x < 256 → a * 256 + x < 256 ^ (i + 1)
below_more a i x h l = rw add-one (omega (arith, pow-suc 256 i))

-- the low bits of an octet at the end
pub mod256 : (n u : ℕ) → u ≤ 8 → n % 256 % 2 ^ u ≡ n % 2 ^ u
mod256 n u h = let e : 8 ≡ (8 - u) + u = omega arith in ap (λ k. n % 2 ^ k % 2 ^ u) e ∙ mod-mod-pow n (8 - u) u

pub multiple : (n k : ℕ) → n % 2 ^ k ≡ 0 → n ≡ n / 2 ^ k * 2 ^ k
multiple n k h = let e = shr_split n k in omega arith

-- a multiple of 2 ^ t below 2 ^ w has room for t ones
pub block_end : (b t w : ℕ) → t ≤ w → b * 2 ^ t < 2 ^ w → b * 2 ^ t + 2 ^ t ≤ 2 ^ w
block_end b t w l h =
    let e : w - t + t ≡ w = omega arith in
    let p : b * 2 ^ t < 2 ^ (w - t + t) = rw e h in
    let q : b < 2 ^ (w - t) = subst (λ x. x < 2 ^ (w - t)) (shl-shr b t) (shr_below (b * 2 ^ t) (w - t) t p) in
    let r : (b + 1) * 2 ^ t ≤ 2 ^ (w - t) * 2 ^ t = mul-le-mul_right (2 ^ t) (omega arith) in
    let s : 2 ^ (w - t) * 2 ^ t ≡ 2 ^ w = sym (pow-add 2 (w - t) t) ∙ ap (λ x. 2 ^ x) e in
    omega arith
