-- The number that few octets write, one octet after the other. Assumes nothing.
use Rattle.std.proofs.Common.{◌≡◌, ℕ, ◌+◌, ◌*◌, ◌^◌, ◌<◌, ◌≤◌, List, length, get_or, take, sym, ap, ◌∙◌, pow-suc, add-one, arith}
use native.Mathlib.Nat.{pow-le-pow_right}
use Rattle.std.specs.Int.Digits.{number_from_digits}
use Rattle.std.proofs.lemmas.Int.Digits.{number_more}
use Rattle.std.proofs.lemmas.List.{take_all}

-- up to four octets write a number of 32 bits
pub value_small : (v i : ℕ) → v < 256 ^ i → i < 5 → v < 4294967296
value_small v i h small =
    let some : 0 < 256 = omega arith in
    let few : i ≤ 4 = omega arith in
    let p : 256 ^ i ≤ 256 ^ 4 = pow-le-pow_right some few in
    omega arith

pub value-more :
    (v o i : ℕ) (c : List ℕ) → v ≡ number_from_digits 256 (take i c) → v < 256 ^ i → i < length c → o ≡ get_or c i 0 → o < 256
    → (v * 256 + o ≡ number_from_digits 256 (take (i + 1) c)) × (v * 256 + o < 256 ^ (i + 1))
value-more v o i c e h inside is small =
    let p : 256 ^ (i + 1) ≡ 256 ^ i * 256 = ap (λ (n : ℕ). 256 ^ n) (add-one i) ∙ pow-suc 256 i in
    let m = number_more 256 c i inside in
    (ap (λ (x : ℕ). x * 256 + o) e ∙ ap (λ (x : ℕ). number_from_digits 256 (take i c) * 256 + x) is ∙ sym m, omega arith)

pub value_all : (v i : ℕ) (c : List ℕ) → v ≡ number_from_digits 256 (take i c) → length c ≤ i → v ≡ number_from_digits 256 c
value_all v i c e h = e ∙ ap (number_from_digits 256) (take_all i c h)
