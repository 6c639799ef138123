-- Bit strings of the fewest bits for an end of a range. Assumes nothing.
use Rattle.std.proofs.Common.{◌≡◌, ℕ, ◌+◌, ◌-◌, ◌*◌, ◌/◌, ◌%◌, ◌^◌, ◌<◌, ◌≤◌, Bool, true, false, ◌||◌, eqb, ltb, ◌⊎◌, List, length, Some, None, sym, ap, ◌∙◌, inl, inr, arith}
use native.Mathlib.Nat.{div-eq_of_lt}
use lib.Count.{count_trailing_zeros, trailing_le}
use Rattle.std.specs.Int.Digits.{number_from_digits}
use Rattle.std.proofs.lemmas.Nat.{pow_pos, shl-shr, mod_low, mod-pow-add, field_of}
use Rattle.std.proofs.lemmas.Bool.{cases_lt, cond-true, cond-false, eq-eqb, ne_eqb}
use Rattle.std.proofs.lemmas.Bool.Decides.{nat_tests}
use Rattle.family.specs.Widths.{width}
use Rattle.prefixes.specs.Reading.{bit_count, bits_number, last_octet, Readable, low_of, high_of, last_bit}
use Rattle.prefixes.specs.Theorems.{Shortest, FewestBits}
use Rattle.prefixes.proofs.Ends.{number_mod, low_bits, whole}
use Rattle.prefixes.proofs.Tails.{tail_most, tail_within}

-- ---- how many zeros an odd and an even multiple of a power of two end in

multiple_mod : (t b a : ℕ) → a ≡ b * 2 ^ t → a % 2 ^ t ≡ 0
multiple_mod t b a e = let f : a ≡ b * 2 ^ t + 0 = omega arith in ap (λ x. x % 2 ^ t) f ∙ mod_low b t 0 (pow_pos t)

tail_exact : (w t b a : ℕ) → t ≤ w → a ≡ b * 2 ^ t → (t ≡ w) ⊎ (b % 2 ≡ 1) → count_trailing_zeros w a ≡ t
tail_exact w t b a l e (inl s) = let p = tail_most w t a l (multiple_mod t b a e) in let q = trailing_le w a in omega arith
tail_exact w t b a l e (inr s) =
    let p = tail_most w t a l (multiple_mod t b a e) in
    elim (cases_lt t (count_trailing_zeros w a)) [
      | inl g ↦
          let z : a % 2 ^ (1 + t) ≡ 0 = tail_within w (1 + t) a (omega arith) in
          let d : a / 2 ^ t ≡ b = ap (λ x. x / 2 ^ t) e ∙ shl-shr b t in
          let k : b % 2 ^ 1 ≡ 0 = ap (λ x. x % 2 ^ 1) (sym d) ∙ sym (field_of a 1 t) ∙ ap (λ x. x / 2 ^ t) z ∙ div-eq_of_lt (pow_pos t) in
          absurd (omega arith)
      | inr g ↦ omega arith
    ]

tail_even : (w t b a : ℕ) → t < w → a ≡ b * 2 ^ t → b % 2 ≡ 0 → t < count_trailing_zeros w a
tail_even w t b a l e s =
    let d : a / 2 ^ t ≡ b = ap (λ x. x / 2 ^ t) e ∙ shl-shr b t in
    let k : a / 2 ^ t % 2 ^ 1 ≡ 0 = ap (λ x. x % 2 ^ 1) d ∙ s in
    let m : (a / 2 ^ t % 2 ^ 1) * 2 ^ t ≡ 0 * 2 ^ t = ap (λ x. x * 2 ^ t) k in
    let z : a % 2 ^ (1 + t) ≡ 0 = omega (arith, mod-pow-add a 1 t, multiple_mod t b a e) in
    omega (arith, tail_most w (1 + t) a (omega arith) z)

-- ---- the last bit

last_is : (o : List ℕ) (u : ℕ) → u ≤ 7 → last_octet o / 2 ^ u % 2 ≡ bits_number o u % 2
last_is o u h =
    sym (field_of (last_octet o) 1 u)
    ∙ ap (λ x. x / 2 ^ u) (sym (number_mod o (1 + u) (omega arith)))
    ∙ field_of (number_from_digits 256 o) 1 u

last_some : (o : List ℕ) (u : ℕ) (b : Bool) → u ≤ 7 → 0 < length o → eqb (bits_number o u % 2) 1 ≡ b → last_bit o u ≡ Some b
last_some o u b h l e =
    cond-false (eqb (length o) 0 || ltb 7 u) None (Some (eqb (last_octet o / 2 ^ u % 2) 1)) (grind (arith, nat_tests))
    ∙ ap (λ x. Some (eqb x 1)) (last_is o u h)
    ∙ ap Some e

last_none : (o : List ℕ) (u : ℕ) → length o ≡ 0 → last_bit o u ≡ None
last_none o u e = cond-true (eqb (length o) 0 || ltb 7 u) None (Some (eqb (last_octet o / 2 ^ u % 2) 1)) (grind (arith, nat_tests))

module _ (w : ℕ) (o : List ℕ) (u : ℕ) (h : w % 8 ≡ 0) (r : Readable w o u) where
  abbrev t : ℕ
  t = w - bit_count o u

  abbrev lows : ℕ
  lows = count_trailing_zeros w (low_of w o)

  abbrev highs : ℕ
  highs = count_trailing_zeros w (high_of w o u + 1)

  high_bits : high_of w o u + 1 ≡ (bits_number o u + 1) * 2 ^ t
  high_bits = omega (arith, low_bits w o u h r, pow_pos t)

  endings :
      ((last_bit o u ≡ None) × (lows ≡ t) × (highs ≡ t))
      ⊎ (((last_bit o u ≡ Some true) × (lows ≡ t) × (t < highs)) ⊎ ((last_bit o u ≡ Some false) × (t < lows) × (highs ≡ t)))
  endings =
      let b = bits_number o u in
      let e = low_bits w o u h r in
      let f = high_bits in
      let few = r.0.few in
      let fit = r.1 in
      elim (cases_lt 0 (length o)) [
        | inl l ↦ elim (cases_lt 0 (b % 2)) [
          | inl g ↦
              let d : b % 2 ≡ 1 = omega arith in
              inr (inl (last_some o u true few l (eq-eqb (b % 2) 1 d), tail_exact w t b (low_of w o) (omega arith) e (inr d), tail_even w t (b + 1) (high_of w o u + 1) (omega arith) f (omega arith)))
          | inr g ↦
              let d : b % 2 ≡ 0 = omega arith in
              inr (inr (last_some o u false few l (ne_eqb (b % 2) 1 (λ x. omega arith)), tail_even w t b (low_of w o) (omega arith) e d, tail_exact w t (b + 1) (high_of w o u + 1) (omega arith) f (inr (omega arith))))
        ]
        | inr l ↦
            let d : t ≡ w = omega arith in
            inl (last_none o u (omega arith), tail_exact w t b (low_of w o) (omega arith) e (inl d), tail_exact w t (b + 1) (high_of w o u + 1) (omega arith) f (inl d))
      ]

  shortest : Shortest w o u
  shortest =
      let fit = r.1 in
      let s = endings in
      record {
        low = λ no_zero. elim s [ inl e ↦ omega (arith, e.1) | inr x ↦ elim x [ inl e ↦ omega (arith, e.1) | inr e ↦ absurd (no_zero e.0) ] ];
        low_only = λ n z. elim s [
          | inl e ↦ let k = e.0 in let y : ◌≡◌ {A = ℕ} 0 1 = cc in omega arith
          | inr x ↦ elim x [
            | inl e ↦ let k = e.0 in let y : ◌≡◌ {A = ℕ} 0 1 = cc in omega arith
            | inr e ↦ let most = trailing_le w (low_of w o) in omega (arith, e.1)
          ]
        ];
        high = λ no_one. elim s [ inl e ↦ omega (arith, e.2) | inr x ↦ elim x [ inl e ↦ absurd (no_one e.0) | inr e ↦ omega (arith, e.2) ] ];
        high_only = λ n z. elim s [
          | inl e ↦ let k = e.0 in let y : ◌≡◌ {A = ℕ} 0 1 = cc in omega arith
          | inr x ↦ elim x [
            | inl e ↦ let most = trailing_le w (high_of w o u + 1) in omega (arith, e.2)
            | inr e ↦ let k = e.0 in let y : ◌≡◌ {A = ℕ} 0 1 = cc in omega arith
          ]
        ];
      }

pub fewest_bits : FewestBits
fewest_bits v o u r = shortest (width v) o u (whole v) r
