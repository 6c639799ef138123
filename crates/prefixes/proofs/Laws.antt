-- The theorems on reading and writing. Assumes nothing.
use Rattle.std.proofs.Common.{◌≡◌, ℕ, ◌+◌, ◌-◌, ◌*◌, ◌/◌, ◌%◌, ◌^◌, ◌<◌, ◌≤◌, List, ◌++◌, length, take, replicate, sym, refl, ap, ◌∙◌, subst, inl, inr, arith}
use native.Mathlib.Nat.{div-eq_of_lt}
use Rattle.std.specs.Int.Digits.{number_from_digits}
use Rattle.std.proofs.lemmas.Nat.{pow_pos, pow_below, shr_split, shr_below, shl-shr, mod_low, field_of}
use Rattle.std.proofs.lemmas.List.{take_at, length-take-le, get_or-take}
use Rattle.std.proofs.lemmas.Bool.{cases_order}
use Rattle.family.specs.Widths.{width}
use Rattle.prefixes.specs.Reading.{BitString, bit_count, bits_number, last_octet, Readable, low_of, high_of}
use Rattle.prefixes.specs.Ranges.{zero_tail, one_tail, OnePrefix}
use Rattle.prefixes.specs.Writing.{prefix_count, low_count, high_count, octets_for, unused_for, octets_of, bits_of}
use Rattle.prefixes.specs.Theorems.{Octets, ReadBack, HasOctets, ReadsBack, PrefixReadsBack, RangeReadsBack, OneEncoding, OneBitString, IsOnePrefix}
use Rattle.prefixes.proofs.Powers.{pow256, pow_width}
use Rattle.prefixes.proofs.Ends.{number_mod, low_number, low_bits, whole}
use Rattle.prefixes.proofs.Tails.{mod_smaller, shared_is}
use Rattle.prefixes.proofs.Octets.{length_octets_lem, octet_get, octets_split, octets_zeros, number_octets, octets_number, low_count_lem, high_count_lem}

-- ---- what is written

bits_are : (w a n : ℕ) → w % 8 ≡ 0 → n ≤ w → a % 2 ^ (w - n) ≡ 0 → bits_of w a n ≡ octets_of (octets_for n) (a / 2 ^ (8 * (w / 8 - octets_for n)))
unfolding bits_of
bits_are w a n h l z =
    let k = octets_for n in
    let j = w / 8 - k in
    let e : a - a % 2 ^ (w - n) ≡ a = omega arith in
    let f : w / 8 ≡ k + j = omega arith in
    ap (λ x. take k (octets_of (w / 8) x)) e
    ∙ ap (λ x. take k (octets_of x a)) f
    ∙ ap (take k) (octets_split k j a)
    ∙ take_at (octets_of k (a / 2 ^ (8 * j))) (octets_of j a) k (length_octets_lem k (a / 2 ^ (8 * j)))

masked : (w b n : ℕ) → bits_of w b n ≡ bits_of w (b - b % 2 ^ (w - n)) n
unfolding bits_of
masked w b n =
    let t = w - n in
    let a = b - b % 2 ^ t in
    let e : a ≡ b / 2 ^ t * 2 ^ t + 0 = omega (arith, shr_split b t) in
    let z : a % 2 ^ t ≡ 0 = ap (λ x. x % 2 ^ t) e ∙ mod_low (b / 2 ^ t) t 0 (pow_pos t) in
    let f : a ≡ a - a % 2 ^ t = omega arith in
    ap (λ x. take (octets_for n) (octets_of (w / 8) x)) f

pub has_octets : HasOctets
unfolding bits_of
has_octets v a n l =
    let w = width v in
    let x = a - a % 2 ^ (w - n) in
    let xs = octets_of (w / 8) x in
    let e = length_octets_lem (w / 8) x in
    let f : length (take (octets_for n) xs) ≡ octets_for n = length-take-le (octets_for n) xs (omega (arith, whole v)) in (
      f,
      λ i g. (let k : i < octets_for n = omega arith in omega (arith, get_or-take (octets_for n) xs i 0 k, octet_get (w / 8) i x (omega (arith, whole v)))),
    )

module _ (w a n : ℕ) (h : w % 8 ≡ 0) (l : n ≤ w) (s : a < 2 ^ w) (z : a % 2 ^ (w - n) ≡ 0) where
  abbrev k : ℕ
  k = octets_for n

  abbrev j : ℕ
  j = w / 8 - octets_for n

  abbrev o : List ℕ
  o = octets_of (octets_for n) (a / 2 ^ (8 * (w / 8 - octets_for n)))

  after : unused_for n + 8 * j ≡ w - n
  after = omega arith

  low_zeros : a % 2 ^ (8 * j) ≡ 0
  low_zeros = mod_smaller a (8 * j) (w - n) (omega (arith, after)) z

  low_is : low_of w o ≡ a
  unfolding low_of
  low_is =
      let e : k + j ≡ w / 8 = omega arith in
      ap (λ x. number_from_digits 256 (o ++ replicate (w / 8 - x) 0)) (length_octets_lem k (a / 2 ^ (8 * j)))
      ∙ ap (λ xs. number_from_digits 256 (o ++ xs)) (sym (octets_zeros j a low_zeros))
      ∙ ap (number_from_digits 256) (sym (octets_split k j a) ∙ ap (λ x. octets_of x a) e)
      ∙ number_octets (w / 8) a (subst (λ x. a < x) (sym (pow_width w h)) s)

  number_is : number_from_digits 256 o ≡ a / 2 ^ (8 * j)
  number_is =
      let e : w ≡ 8 * k + 8 * j = omega arith in
      let b : a / 2 ^ (8 * j) < 2 ^ (8 * k) = shr_below a (8 * k) (8 * j) (subst (λ x. a < 2 ^ x) e s) in
      number_octets k (a / 2 ^ (8 * j)) (subst (λ x. a / 2 ^ (8 * j) < x) (sym (pow256 k)) b)

  last_zeros : last_octet o % 2 ^ unused_for n ≡ 0
  last_zeros =
      let u = unused_for n in
      let f : a % 2 ^ (u + 8 * j) ≡ 0 = ap (λ x. a % 2 ^ x) after ∙ z in
      sym (number_mod o u (omega arith))
      ∙ ap (λ x. x % 2 ^ u) number_is
      ∙ sym (field_of a u (8 * j))
      ∙ ap (λ x. x / 2 ^ (8 * j)) f
      ∙ div-eq_of_lt (pow_pos (8 * j))

  count_is : bit_count o (unused_for n) ≡ n
  count_is = omega (arith, length_octets_lem k (a / 2 ^ (8 * j)))

  back : ReadBack w a n
  back =
      let e = sym (bits_are w a n h l z) in
      let p : bit_count (bits_of w a n) (unused_for n) ≡ n = subst (λ x. bit_count x (unused_for n) ≡ n) e count_is in
      let q : low_of w (bits_of w a n) ≡ a = subst (λ x. low_of w x ≡ a) e low_is in
      record {
        bit_string = subst (λ x. BitString x (unused_for n)) e record {
          few = omega arith;
          none = λ g. omega (arith, length_octets_lem k (a / 2 ^ (8 * j)));
          zeros = last_zeros;
        };
        count = p;
        low = q;
        high = ap (λ x. low_of w (bits_of w a n) + 2 ^ (w - x) - 1) p ∙ ap (λ x. x + 2 ^ (w - n) - 1) q;
      }

pub reads_back : ReadsBack
reads_back v a n s l z = back (width v) a n (whole v) l s z

readable_back : (w a n : ℕ) → n ≤ w → ReadBack w a n → Readable w (bits_of w a n) (unused_for n)
readable_back w a n l r = (r.bit_string, omega (arith, r.count))

pub prefix_reads_back : PrefixReadsBack
prefix_reads_back v a b s p =
    let w = width v in
    let n = prefix_count w a b in
    let e = shared_is w a b p in
    let l : n ≤ w = omega arith in
    let f : w - n ≡ p.0 = omega (arith, p.1) in
    let r = reads_back v a n s l (ap (λ k. a % 2 ^ k) f ∙ p.2) in
    let g : a + 2 ^ p.0 - 1 ≡ b = omega (arith, p.3) in
    record { prefix_readable = readable_back w a n l r; low = r.low; high = r.high ∙ ap (λ k. a + 2 ^ k - 1) f ∙ g }

pub range_reads_back : RangeReadsBack
range_reads_back v a s =
    let w = width v in
    let n = low_count w a in
    let x = (low_count_lem w a (zero_tail w a) n refl refl).1 in
    let r = reads_back v a n s x.most x.ends in
    let m = high_count w a in
    let y = (high_count_lem w a (one_tail w a) m refl refl).1 in
    let t = w - m in
    let b = a - a % 2 ^ t in
    let e : b ≡ a / 2 ^ t * 2 ^ t + 0 = omega (arith, shr_split a t) in
    let z : b % 2 ^ t ≡ 0 = ap (λ i. i % 2 ^ t) e ∙ mod_low (a / 2 ^ t) t 0 (pow_pos t) in
    let q = reads_back v b m (omega arith) y.most z in
    let f = masked w a m in
    let g : b + 2 ^ t - 1 ≡ a = omega (arith, y.ends, shr_split a t) in
    record {
      low_readable = readable_back w a n x.most r;
      low = r.low;
      high_readable = subst (λ o. Readable w o (unused_for m)) (sym f) (readable_back w b m y.most q);
      high = ap (λ o. high_of w o (unused_for m)) f ∙ q.high ∙ g;
    }

-- ---- what is read

module _ (w : ℕ) (o : List ℕ) (u : ℕ) (h : w % 8 ≡ 0) (r : Readable w o u) where
  pub low_ends : low_of w o % 2 ^ (w - bit_count o u) ≡ 0
  low_ends =
      let t = w - bit_count o u in
      let b = bits_number o u in
      let e : low_of w o ≡ b * 2 ^ t + 0 = omega (arith, low_bits w o u h r) in
      ap (λ x. x % 2 ^ t) e ∙ mod_low b t 0 (pow_pos t)

  pub count_octets : octets_for (bit_count o u) ≡ length o
  count_octets = let few = r.0.few in let none = r.0.none in grind arith

  pub count_unused : unused_for (bit_count o u) ≡ u
  count_unused = let few = r.0.few in let none = r.0.none in grind arith

  pub written_again : Octets o → bits_of w (low_of w o) (bit_count o u) ≡ o
  written_again q =
      let n = bit_count o u in
      let k = length o in
      let j = w / 8 - k in
      let a = low_of w o in
      let e = low_number w o in
      let f : a / 2 ^ (8 * j) ≡ number_from_digits 256 o = ap (λ x. x / 2 ^ (8 * j)) (e ∙ ap (λ x. number_from_digits 256 o * x) (pow256 j)) ∙ shl-shr (number_from_digits 256 o) (8 * j) in
      bits_are w a n h r.1 low_ends
      ∙ ap (λ x. octets_of x (a / 2 ^ (8 * (w / 8 - x)))) count_octets
      ∙ ap (octets_of k) f
      ∙ octets_number k o refl q

  pub one_prefix_lem : OnePrefix w (low_of w o) (high_of w o u)
  one_prefix_lem = (w - bit_count o u, omega arith, low_ends, omega (arith, pow_pos (w - bit_count o u)))

pub one_encoding : OneEncoding
one_encoding v o u q r = (written_again (width v) o u (whole v) r q, count_unused (width v) o u (whole v) r)

pub is_one_prefix : IsOnePrefix
is_one_prefix v o u r = one_prefix_lem (width v) o u (whole v) r

same_power : (x y : ℕ) → 2 ^ x ≡ 2 ^ y → x ≡ y
same_power x y e =
    elim (cases_order x y) [
      | inl s ↦ s
      | inr s ↦ elim s [
        | inl l ↦ absurd (let p = pow_below x y l in omega arith)
        | inr l ↦ absurd (let p = pow_below y x l in omega arith)
      ]
    ]

pub one_bit_string : OneBitString
one_bit_string v o p u t qo qp ro rp e f =
    let w = width v in
    let x = bit_count o u in
    let y = bit_count p t in
    let g : 2 ^ (w - x) ≡ 2 ^ (w - y) = omega (arith, pow_pos (w - x), pow_pos (w - y)) in
    let s = same_power (w - x) (w - y) g in
    let n : x ≡ y = omega (arith, ro.1, rp.1) in
    let a = one_encoding v o u qo ro in
    let b = one_encoding v p t qp rp in (
      sym a.0 ∙ ap (λ k. bits_of w (low_of w o) k) n ∙ ap (λ k. bits_of w k y) e ∙ b.0,
      sym a.1 ∙ ap unused_for n ∙ b.1,
    )
