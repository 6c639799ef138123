-- Counts of zeros and ones at the end of a number, and the ranges that are one prefix. Assumes nothing.
use Rattle.std.proofs.Common.{◌≡◌, ℕ, zero, suc, ◌+◌, ◌-◌, ◌*◌, ◌/◌, ◌%◌, ◌^◌, ◌<◌, ◌≤◌, min, Bool, true, eqb, Decides, sym, refl, ap, ◌∙◌, inl, inr, mod-eq_of_lt, le_antisymm, add-one, arith, pow_mono, pow-add}
use native.Mathlib.Nat.{div-eq_of_lt, mul-add-mod_self_right}
use lib.Count.{count_trailing_zeros, under, trailing_le}
use lib.Pow.{mod-mod-pow, mod-pow-add}
use Rattle.std.proofs.lemmas.Nat.{pow_pos, shr_split, mod_low, shr_high, pow_below, mod_below}
use Rattle.std.proofs.lemmas.Bool.{eqb-true, eq-eqb, cases_lt}
use Rattle.prefixes.specs.Ranges.{OnePrefix, zero_tail, one_tail, shared_tail, one_prefix}

-- ---- the zeros at the end of a number are the powers of two that divide it

mod_suc : (n k : ℕ) → n % 2 ^ suc k ≡ (n / 2 % 2 ^ k) * 2 + n % 2
mod_suc n k = ap (λ x. n % 2 ^ x) (sym (add-one k)) ∙ mod-pow-add n k 1

under_zero : (d t : ℕ) → d ≡ 0 → under d t ≡ suc t
under_zero zero t e = refl
under_zero (suc d) t e = absurd (omega arith)

under_one : (d t : ℕ) → 0 < d → under d t ≡ 0
under_one zero t h = absurd (omega arith)
under_one (suc d) t h = refl

pub tail_divides : (m n : ℕ) → n % 2 ^ count_trailing_zeros m n ≡ 0
unfolding count_trailing_zeros
tail_divides zero n = omega arith
tail_divides (suc m) n =
    elim (cases_lt 0 (n % 2)) [
      | inl h ↦ ap (λ k. n % 2 ^ k) (under_one (n % 2) (count_trailing_zeros m (n / 2)) h) ∙ omega arith
      | inr h ↦
          let e : n % 2 ≡ 0 = omega arith in
          ap (λ k. n % 2 ^ k) (under_zero (n % 2) (count_trailing_zeros m (n / 2)) e) ∙ omega (arith, mod_suc n (count_trailing_zeros m (n / 2)), tail_divides m (n / 2))
    ]

pub tail_most : (m j n : ℕ) → j ≤ m → n % 2 ^ j ≡ 0 → j ≤ count_trailing_zeros m n
unfolding count_trailing_zeros
tail_most m zero n l h = omega arith
tail_most zero (suc j) n l h = absurd (omega arith)
tail_most (suc m) (suc j) n l h =
    let s = mod_suc n j in
    let e : n % 2 ≡ 0 = omega arith in
    let f : n / 2 % 2 ^ j ≡ 0 = omega arith in
    omega (arith, under_zero (n % 2) (count_trailing_zeros m (n / 2)) e, tail_most m j (n / 2) (omega arith) f)

-- what a power of two divides, a smaller one does
pub mod_smaller : (n i j : ℕ) → i ≤ j → n % 2 ^ j ≡ 0 → n % 2 ^ i ≡ 0
mod_smaller n i j l h =
    let e : j - i + i ≡ j = omega arith in
    sym (mod-mod-pow n (j - i) i) ∙ ap (λ k. n % 2 ^ k % 2 ^ i) e ∙ ap (λ x. x % 2 ^ i) h ∙ mod-eq_of_lt (pow_pos i)

pub tail_within : (m j n : ℕ) → j ≤ count_trailing_zeros m n → n % 2 ^ j ≡ 0
tail_within m j n l = mod_smaller n j (count_trailing_zeros m n) l (tail_divides m n)

-- a shorter count stops at its width
pub tail_shorter : (w m n : ℕ) → w ≤ m → min (count_trailing_zeros m n) w ≡ count_trailing_zeros w n
tail_shorter w m n l =
    let k = min (count_trailing_zeros m n) w in
    le_antisymm (tail_most w k n (omega arith) (tail_within m k n (omega arith)))
    (let h = trailing_le w n in omega (arith, tail_most m (count_trailing_zeros w n) n (omega arith) (tail_divides w n)))

-- two numbers that make a multiple are multiples together
sum_mod : (a b s k : ℕ) → a + b ≡ s → s % 2 ^ k ≡ 0 → a % 2 ^ k ≡ 0 → b % 2 ^ k ≡ 0
sum_mod a b s k e h g =
    let q = a / 2 ^ k in
    let f : q * 2 ^ k + b ≡ s = omega (arith, shr_split a k) in
    sym (mul-add-mod_self_right q (2 ^ k) b) ∙ ap (λ x. x % 2 ^ k) f ∙ h

pow_mod : (j k : ℕ) → k ≤ j → 2 ^ j % 2 ^ k ≡ 0
pow_mod j k l =
    let e : j ≡ j - k + k = omega arith in
    let f : 2 ^ j ≡ 2 ^ (j - k) * 2 ^ k + 0 = ap (λ x. 2 ^ x) e ∙ pow-add 2 (j - k) k ∙ omega arith in
    ap (λ x. x % 2 ^ k) f ∙ mod_low (2 ^ (j - k)) k 0 (pow_pos k)

-- the ones at the end of a number of m bits are the zeros at the end of what it lacks to all ones
pub one_tail_lem : (w m b x : ℕ) → w ≤ m → x + (b + 1) ≡ 2 ^ m → min (count_trailing_zeros m x) w ≡ count_trailing_zeros w (b + 1)
one_tail_lem w m b x l e =
    let i = count_trailing_zeros w x in
    let j = count_trailing_zeros w (b + 1) in
    let p : i ≤ w = trailing_le w x in
    let q : j ≤ w = trailing_le w (b + 1) in
    let f : (b + 1) + x ≡ 2 ^ m = omega arith in
    tail_shorter w m x l
    ∙ le_antisymm
    (tail_most w i (b + 1) p (sum_mod x (b + 1) (2 ^ m) i e (pow_mod m i (omega arith)) (tail_divides w x)))
    (tail_most w j x q (sum_mod (b + 1) x (2 ^ m) j f (pow_mod m j (omega arith)) (tail_divides w (b + 1))))

-- ---- k ones at the end

pub ones_from : (b k : ℕ) → (b + 1) % 2 ^ k ≡ 0 → b % 2 ^ k + 1 ≡ 2 ^ k
ones_from b k h =
    let q = b / 2 ^ k in
    let r = b % 2 ^ k in
    let s : r < 2 ^ k = mod_below b (2 ^ k) (pow_pos k) in
    let e : b + 1 ≡ q * 2 ^ k + (r + 1) = omega (arith, shr_split b k) in
    let f : (r + 1) % 2 ^ k ≡ 0 = sym (mul-add-mod_self_right q (2 ^ k) (r + 1)) ∙ ap (λ x. x % 2 ^ k) (sym e) ∙ h in
    elim (cases_lt (r + 1) (2 ^ k)) [
      | inl l ↦ absurd (let z : (r + 1) % 2 ^ k ≡ r + 1 = mod-eq_of_lt l in omega arith)
      | inr l ↦ omega arith
    ]

pub ones_to : (b k : ℕ) → b % 2 ^ k + 1 ≡ 2 ^ k → (b + 1) % 2 ^ k ≡ 0
ones_to b k h =
    let q = b / 2 ^ k in
    let e : b + 1 ≡ q * 2 ^ k + 2 ^ k = omega (arith, shr_split b k) in
    ap (λ x. x % 2 ^ k) e ∙ mul-add-mod_self_right q (2 ^ k) (2 ^ k) ∙ pow_mod k k (omega arith)

-- ---- one prefix

prefix_from : (w a b : ℕ) → one_prefix w a b ≡ true → OnePrefix w a b
prefix_from w a b t =
    let k = shared_tail w a b in
    let e = eqb-true (a / 2 ^ k) (b / 2 ^ k) t in
    let g : a % 2 ^ k ≡ 0 = tail_within w k a (omega arith) in
    let h : b % 2 ^ k + 1 ≡ 2 ^ k = ones_from b k (tail_within w k (b + 1) (omega arith)) in
    let l = trailing_le w a in
    let f : a / 2 ^ k * 2 ^ k ≡ b / 2 ^ k * 2 ^ k = ap (λ x. x * 2 ^ k) e in
    (k, omega arith, g, omega (arith, shr_split a k, shr_split b k))

-- these are the bits in which the addresses of a prefix differ
pub shared_is : (w a b : ℕ) (p : OnePrefix w a b) → shared_tail w a b ≡ p.0
shared_is w a b p =
    let k = shared_tail w a b in
    let j = p.0 in
    let e = p.3 in
    let up : a + 2 ^ j ≡ b + 1 = omega arith in
    let q = a / 2 ^ j in
    let n : b + 1 ≡ q * 2 ^ j + 2 ^ j = omega (arith, shr_split a j) in
    let m : (b + 1) % 2 ^ j ≡ 0 = ap (λ x. x % 2 ^ j) n ∙ mul-add-mod_self_right q (2 ^ j) (2 ^ j) ∙ pow_mod j j (omega arith) in
    let y = tail_most w j a p.1 p.2 in
    let z = tail_most w j (b + 1) p.1 m in
    let d : 2 ^ j % 2 ^ k ≡ 0 = sum_mod a (2 ^ j) (b + 1) k up (tail_within w k (b + 1) (omega arith)) (tail_within w k a (omega arith)) in
    elim (cases_lt j k) [
      | inl l ↦ absurd (let s : 2 ^ j % 2 ^ k ≡ 2 ^ j = mod-eq_of_lt (pow_below j k l) in omega (arith, pow_pos j))
      | inr l ↦ omega arith
    ]

prefix_to : (w a b : ℕ) → OnePrefix w a b → one_prefix w a b ≡ true
prefix_to w a b p =
    let k = shared_tail w a b in
    let j = p.0 in
    let e = p.3 in
    let q = a / 2 ^ j in
    let same = shared_is w a b p in
    let s : b ≡ q * 2 ^ j + (2 ^ j - 1) = omega (arith, shr_split a j, p.2, pow_pos j) in
    let u : b / 2 ^ j ≡ q = ap (λ x. x / 2 ^ j) s ∙ shr_high q j (2 ^ j - 1) (omega (arith, pow_pos j)) in
    eq-eqb (a / 2 ^ k) (b / 2 ^ k) (ap (λ x. a / 2 ^ x) same ∙ sym u ∙ ap (λ x. b / 2 ^ x) (sym same))

pub prefix_decides : (w a b : ℕ) → Decides (one_prefix w a b) (OnePrefix w a b)
prefix_decides w a b = (prefix_from w a b, prefix_to w a b)

-- ---- what the code answers

pub tail_answer : (w x n r : ℕ) → x ≡ count_trailing_zeros 128 n → r ≡ min x w → w ≤ 128 → (r ≡ zero_tail w n) × (r ≤ w)
tail_answer w x n r e f l = let g = tail_shorter w 128 n l in (f ∙ ap (λ y. min y w) e ∙ g, omega arith)

pub one_answer : (w x b r : ℕ) → b < 2 ^ 128 → x ≡ count_trailing_zeros 128 (2 ^ 128 - 1 - b) → r ≡ min x w → w ≤ 128 → (r ≡ one_tail w b) × (r ≤ w)
one_answer w x b r h e f l =
    let g = one_tail_lem w 128 b (2 ^ 128 - 1 - b) l (omega arith) in
    (f ∙ ap (λ y. min y w) e ∙ g, omega arith)

pub shr_none : (a k : ℕ) → a < 2 ^ 128 → 128 ≤ k → 0 ≡ a / 2 ^ k
shr_none a k h l = let p : 2 ^ 128 ≤ 2 ^ k = pow_mono l in sym (div-eq_of_lt (omega arith))

pub shared-answer :
    (w a b z o k : ℕ) → z ≡ zero_tail w a → o ≡ one_tail w b → z ≤ w → k ≡ min z o → (k ≡ shared_tail w a b) × (k ≤ w)
shared-answer w a b z o k e f l g = (g ∙ ap (λ n. min n o) e ∙ ap (min (zero_tail w a)) f, omega arith)

pub prefix_answer : (w a b k : ℕ) (r : Bool) → k ≡ shared_tail w a b → r ≡ eqb (a / 2 ^ k) (b / 2 ^ k) → r ≡ one_prefix w a b
prefix_answer w a b k r s p = p ∙ ap (λ n. eqb (a / 2 ^ n) (b / 2 ^ n)) s
