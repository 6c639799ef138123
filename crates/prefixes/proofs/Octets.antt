-- Numbers as octets, and addresses as bit strings. Assumes nothing.
use Rattle.std.proofs.Common.{◌≡◌, ℕ, zero, suc, ◌+◌, ◌-◌, ◌*◌, ◌/◌, ◌%◌, ◌^◌, ◌<◌, ◌≤◌, min, List, [], ◌∷◌, ◌++◌, length, get_or, take, replicate, sym, refl, ap, ◌∙◌, subst, inl, inr, mod-eq_of_lt, pow-suc, add-one, arith, pow_mono}
use native.Mathlib.Nat.{pow-zero}
use lib.Count.{trailing_le}
use Rattle.std.specs.Int.Digits.{number_from_digits}
use Rattle.std.proofs.lemmas.Nat.{shr-shr, mod-pow-add}
use Rattle.std.proofs.lemmas.Int.Digits.{number_push, number_more}
use Rattle.std.proofs.lemmas.List.{append_assoc, append-nil, length_push, length-take, length-take-le, take_all, take_more, get_or-take, get_or_append_left, get_or_at, get_or_past, nil_from_length, replicate_more}
use Rattle.std.proofs.lemmas.Bool.{cases_lt}
use Rattle.prefixes.specs.Ranges.{zero_tail, one_tail}
use Rattle.prefixes.specs.Writing.{low_count, high_count, BeforeZeros, BeforeOnes, octets_for, octets_of, bits_of}
use Rattle.prefixes.proofs.Tails.{tail_within, tail_most, ones_from, ones_to}

-- ---- how many bits

pub low_count_lem : (w a z r : ℕ) → z ≡ zero_tail w a → r ≡ w - z → (r ≡ low_count w a) × BeforeZeros w a r
low_count_lem w a z r e f =
    let l = trailing_le w a in
    let g : w - r ≡ z = omega arith in (
      omega arith,
      record {
        most = omega arith;
        ends = tail_within w (w - r) a (omega arith);
        fewest = λ m h p. omega (arith, tail_most w (w - m) a (omega arith) p);
      },
    )

pub high_count_lem : (w b o r : ℕ) → o ≡ one_tail w b → r ≡ w - o → (r ≡ high_count w b) × BeforeOnes w b r
high_count_lem w b o r e f =
    let l = trailing_le w (b + 1) in
    let g : w - r ≡ o = omega arith in (
      omega arith,
      record {
        most = omega arith;
        ends = ones_from b (w - r) (tail_within w (w - r) (b + 1) (omega arith));
        fewest = λ m h p. omega (arith, tail_most w (w - m) (b + 1) (omega arith) (ones_to b (w - m) p));
      },
    )

-- ---- a number as octets

pub length_octets_lem : (k a : ℕ) → length (octets_of k a) ≡ k
unfolding octets_of
length_octets_lem zero a = refl
length_octets_lem (suc k) a = length_push (octets_of k (a / 256)) (a % 256) ∙ omega (arith, length_octets_lem k (a / 256))

pub octet_get : (k i a : ℕ) → i < k → get_or (octets_of k a) i 0 ≡ a / 2 ^ (8 * (k - 1 - i)) % 256
unfolding octets_of
octet_get zero i a h = absurd (omega arith)
octet_get (suc k) i a h =
    let xs = octets_of k (a / 256) in
    let n = length_octets_lem k (a / 256) in
    elim (cases_lt i k) [
      | inl l ↦
          let e : 8 + 8 * (k - 1 - i) ≡ 8 * (suc k - 1 - i) = omega arith in
          get_or_append_left xs (a % 256 ∷ []) 0 i (omega arith)
          ∙ octet_get k i (a / 256) l
          ∙ ap (λ x. x % 256) (shr-shr a 8 (8 * (k - 1 - i)) ∙ ap (λ x. a / 2 ^ x) e)
      | inr l ↦
          let e : 0 ≡ 8 * (suc k - 1 - i) = omega arith in
          let f : a ≡ a / 2 ^ 0 = omega arith in
          get_or_at xs (a % 256) [] 0 i (omega arith) ∙ ap (λ x. x % 256) (f ∙ ap (λ x. a / 2 ^ x) e)
    ]

-- the octet at a place, as the code has it
pub octet-within :
    (w a n i c : ℕ) → w % 8 ≡ 0 → c ≡ min n w → i < octets_for c
    → (a - a % 2 ^ (w - c)) / 2 ^ (w - 8 - 8 * i) % 256 ≡ get_or (bits_of w a n) i 0
unfolding bits_of
octet-within w a n i c h e l =
    let f : w - n ≡ w - c = omega arith in
    let g : 8 * (w / 8 - 1 - i) ≡ w - 8 - 8 * i = omega arith in
    let v = a - a % 2 ^ (w - n) in
    let p : i < octets_for n = omega arith in
    sym (get_or-take (octets_for n) (octets_of (w / 8) v) i 0 p
    ∙ octet_get (w / 8) i v (omega arith)
    ∙ ap (λ x. v / 2 ^ x % 256) g
    ∙ ap (λ x. (a - a % 2 ^ x) / 2 ^ (w - 8 - 8 * i) % 256) f)

pub octet-answer :
    (w s a n i c x y : ℕ) → s ≡ w → w % 8 ≡ 0 → c ≡ min n s → i < octets_for c → x ≡ a - a % 2 ^ (s - c) → y ≡ x / 2 ^ (s - 8 - 8 * i)
    → y % 256 ≡ get_or (bits_of w a n) i 0
octet-answer w s a n i c x y e h f l p q =
    let g : c ≡ min n w = f ∙ ap (min n) e in
    let r : x ≡ a - a % 2 ^ (w - c) = p ∙ ap (λ k. a - a % 2 ^ (k - c)) e in
    ap (λ k. k % 256) (q ∙ ap (λ k. k / 2 ^ (s - 8 - 8 * i)) r)
    ∙ ap (λ k. (a - a % 2 ^ (w - c)) / 2 ^ (k - 8 - 8 * i) % 256) e
    ∙ octet-within w a n i c h g l

pub octet_past : (w a n i c : ℕ) → w % 8 ≡ 0 → c ≡ min n w → octets_for c ≤ i → 0 ≡ get_or (bits_of w a n) i 0
unfolding bits_of
octet_past w a n i c h e l =
    let xs = octets_of (w / 8) (a - a % 2 ^ (w - n)) in
    let f = length_octets_lem (w / 8) (a - a % 2 ^ (w - n)) in
    sym (get_or_past (take (octets_for n) xs) i 0 (omega (arith, length-take (octets_for n) xs)))

pub cleared_all : (a k : ℕ) → a < 2 ^ 128 → 128 ≤ k → 0 ≡ a - a % 2 ^ k
cleared_all a k h l = let p : 2 ^ 128 ≤ 2 ^ k = pow_mono l in let e : a % 2 ^ k ≡ a = mod-eq_of_lt (omega arith) in omega arith

-- ---- octets in two parts

pub octets_split : (k j a : ℕ) → octets_of (k + j) a ≡ octets_of k (a / 2 ^ (8 * j)) ++ octets_of j a
unfolding octets_of
octets_split k zero a =
    let e : k + 0 ≡ k = omega arith in
    let f : a ≡ a / 2 ^ (8 * 0) = omega arith in
    ap (λ x. octets_of x a) e ∙ ap (octets_of k) f ∙ sym (append-nil (octets_of k (a / 2 ^ (8 * 0))))
octets_split k (suc j) a =
    let e : k + suc j ≡ suc (k + j) = omega arith in
    let f : 8 + 8 * j ≡ 8 * suc j = omega arith in
    ap (λ x. octets_of x a) e
    ∙ ap (λ xs. xs ++ (a % 256 ∷ [])) (octets_split k j (a / 256))
    ∙ append_assoc (octets_of k (a / 256 / 2 ^ (8 * j))) (octets_of j (a / 256)) (a % 256 ∷ [])
    ∙ ap (λ x. octets_of k x ++ (octets_of j (a / 256) ++ (a % 256 ∷ []))) (shr-shr a 8 (8 * j) ∙ ap (λ x. a / 2 ^ x) f)

zeros_more : (j x : ℕ) (xs : List ℕ) → xs ≡ replicate j 0 → x ≡ 0 → xs ++ (x ∷ []) ≡ replicate (suc j) 0
zeros_more j x xs e f = rw (e, f) (replicate_more j 0 ∙ ap (λ k. replicate k 0) (add-one j))

pub octets_zeros : (j a : ℕ) → a % 2 ^ (8 * j) ≡ 0 → octets_of j a ≡ replicate j 0
unfolding octets_of
octets_zeros zero a h = refl
octets_zeros (suc j) a h =
    let f : 8 * suc j ≡ 8 * j + 8 = omega arith in
    let e : (a / 2 ^ 8 % 2 ^ (8 * j)) * 2 ^ 8 + a % 2 ^ 8 ≡ 0 = sym (mod-pow-add a (8 * j) 8) ∙ ap (λ x. a % 2 ^ x) (sym f) ∙ h in
    zeros_more j (a % 256) (octets_of j (a / 256)) (octets_zeros j (a / 256) (omega arith)) (omega arith)

-- ---- from octets to a number and back

pub number_octets : (k a : ℕ) → a < 256 ^ k → number_from_digits 256 (octets_of k a) ≡ a
unfolding octets_of
number_octets zero a h = omega (arith, pow-zero 256)
number_octets (suc k) a h =
    let l : a / 256 < 256 ^ k = omega (arith, pow-suc 256 k) in
    let e : a / 256 * 256 + a % 256 ≡ a = omega arith in
    number_push 256 (octets_of k (a / 256)) (a % 256) ∙ ap (λ x. x * 256 + a % 256) (number_octets k (a / 256) l) ∙ e

pub octets_number : (k : ℕ) (o : List ℕ) → length o ≡ k → ((i : ℕ) → i < length o → get_or o i 0 < 256) → octets_of k (number_from_digits 256 o) ≡ o
unfolding octets_of
octets_number zero o e h = sym (nil_from_length o e)
octets_number (suc k) o e h =
    let p = take k o in
    let x = get_or o k 0 in
    let s : x < 256 = h k (omega arith) in
    let m : k + 1 ≡ length o = omega arith in
    let t : take (k + 1) o ≡ o = take_all (k + 1) o (omega arith) in
    let n : number_from_digits 256 o ≡ number_from_digits 256 p * 256 + x = ap (number_from_digits 256) (sym t) ∙ number_more 256 o k (omega arith) in
    let q : number_from_digits 256 o / 256 ≡ number_from_digits 256 p = omega arith in
    let r : number_from_digits 256 o % 256 ≡ x = omega arith in
    let l : length p ≡ k = length-take-le k o (omega arith) in
    let ih = octets_number k p l (λ i g. subst (λ y. y < 256) (sym (get_or-take k o i 0 (omega arith))) (h i (omega arith))) in
    ap (λ y. octets_of k y ++ (number_from_digits 256 o % 256 ∷ [])) q
    ∙ ap (λ y. octets_of k (number_from_digits 256 p) ++ (y ∷ [])) r
    ∙ ap (λ xs. xs ++ (x ∷ [])) ih
    ∙ sym (take_more o k 0 (omega arith))
    ∙ t
