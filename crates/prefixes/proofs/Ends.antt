-- The numbers of bit strings, and the addresses at the two ends. Assumes nothing.
use Rattle.std.proofs.Common.{◌≡◌, ℕ, zero, suc, ◌+◌, ◌-◌, ◌*◌, ◌/◌, ◌%◌, ◌^◌, ◌<◌, ◌≤◌, true, List, [], ◌∷◌, ◌++◌, length, get_or, take, drop, replicate, Some, None, Decides, sym, refl, ap, ◌∙◌, subst, mul_assoc, add-mul, mul-lt-mul_of_pos_right, arith, pow-add}
use native.Mathlib.Nat.{pow-succ'}
use Rattle.std.specs.Int.{w128, byte_worth, sum_through, from_be_bytes}
use Rattle.std.specs.Int.Digits.{number_from_digits, number_from_digits_after}
use Rattle.std.proofs.lemmas.Int.Digits.{number_after_append, number_more, number_lt}
use borrow.Rule.Slice.PartMut.{put_mid}
use Rattle.std.proofs.lemmas.Slice.{take-put_mid, drop-put_mid}
use Rattle.std.proofs.lemmas.List.{append_assoc, length-append, length-replicate, take-replicate, drop-replicate, take-append-drop, take_all}
use Rattle.std.proofs.lemmas.Nat.{pow_pos, shl-shr, shr_high, mod_low}
use Rattle.std.proofs.ByRecursion.{All-from_get_or}
use Rattle.std.proofs.lemmas.Bool.Decides.{nat_tests}
use Rattle.std.proofs.lemmas.Bool.{cond-true}
use Rattle.content.specs.Forms.{bits_formed}
use Rattle.prefixes.specs.Reading.{BitString, bit_count, bits_number, last_octet, Readable, readable, low_of, high_of, low_end, high_end, LowEnd, HighEnd}
use Rattle.family.specs.Widths.{width}
use Rattle.family.specs.declared.Family.{Family}
use Rattle.family.specs.declared.Family.TheVariants.{Ipv4, Ipv6}
use Rattle.prefixes.proofs.Powers.{pow256, pow_width, mod256, multiple, block_end}

-- ---- octets with zeros after them

-- sixteen octets as a number, by the worth of each
worth : (i x : ℕ) → byte_worth i x ≡ x * 256 ^ i
worth zero x = omega arith
worth (suc i) x = refl

sum_is : (b : List ℕ) (m k : ℕ) → k < length b → k ≤ m → sum_through (λ i. byte_worth (m - i) (get_or b i 0)) k ≡ number_from_digits 256 (take (k + 1) b) * 256 ^ (m - k)
sum_is b m zero h l =
    let e = number_more 256 b 0 h in
    let f : number_from_digits 256 (take (0 + 1) b) ≡ get_or b 0 0 = omega arith in
    worth (m - 0) (get_or b 0 0) ∙ ap (λ x. x * 256 ^ (m - 0)) (sym f)
sum_is b m (suc k) h l =
    let n = number_from_digits 256 (take (k + 1) b) in
    let x = get_or b (suc k) 0 in
    let q = 256 ^ (m - suc k) in
    let s : m - k ≡ suc (m - suc k) = omega arith in
    let i : k + 1 ≡ suc k = omega arith in
    let e = sum_is b m k (omega arith) (omega arith) in
    let p : n * 256 ^ (m - k) ≡ n * 256 * q = ap (λ y. n * 256 ^ y) s ∙ ap (λ y. n * y) (pow-succ' 256 (m - suc k)) ∙ sym (mul_assoc n 256 q) in
    let g = number_more 256 b (suc k) h in
    let f : number_from_digits 256 (take (suc k + 1) b) ≡ n * 256 + x = g ∙ ap (λ y. number_from_digits 256 (take y b) * 256 + x) (sym i) in
    let w = worth (m - suc k) x in
    let d : (n * 256 + x) * q ≡ n * 256 * q + x * q = add-mul (n * 256) x q in
    omega (arith, e, p, w, d, ap (λ y. y * q) f)

pub be_number : (b : List ℕ) → length b ≡ 16 → from_be_bytes w128 b ≡ number_from_digits 256 b
be_number b h =
    let e = sum_is b 15 15 (omega arith) (omega arith) in
    let t : take (15 + 1) b ≡ b = take_all (15 + 1) b (omega arith) in
    let f = ap (number_from_digits 256) t in
    e ∙ omega arith

number_zeros : (n j : ℕ) → number_from_digits_after 256 n (replicate j 0) ≡ n * 256 ^ j
number_zeros n zero = omega arith
number_zeros n (suc j) =
    let e = number_zeros (n * 256 + 0) j in
    let f : n * 256 + 0 ≡ n * 256 = omega arith in
    e ∙ ap (λ x. x * 256 ^ j) f ∙ mul_assoc n 256 (256 ^ j) ∙ ap (λ x. n * x) (sym (pow-succ' 256 j))

pub low_number : (w : ℕ) (o : List ℕ) → low_of w o ≡ number_from_digits 256 o * 256 ^ (w / 8 - length o)
unfolding low_of
low_number w o = number_after_append 256 0 o (replicate (w / 8 - length o) 0) ∙ number_zeros (number_from_digits 256 o) (w / 8 - length o)

-- ---- the bits as a number

pub number_mod : (o : List ℕ) (u : ℕ) → u ≤ 8 → number_from_digits 256 o % 2 ^ u ≡ last_octet o % 2 ^ u
number_mod [] u h = refl
number_mod (y ∷ o) u h =
    let p = y ∷ o in
    let i = length p - 1 in
    let l : i < length p = omega arith in
    let e = number_more 256 p i l in
    let t : take (i + 1) p ≡ p = take_all (i + 1) p (omega arith) in
    let f : number_from_digits 256 p ≡ number_from_digits 256 (take i p) * 256 + last_octet p = ap (number_from_digits 256) (sym t) ∙ e in
    let g : number_from_digits 256 p % 256 ≡ last_octet p % 256 = omega arith in
    sym (mod256 (number_from_digits 256 p) u h) ∙ ap (λ x. x % 2 ^ u) g ∙ mod256 (last_octet p) u h

pub number_bits : (o : List ℕ) (u : ℕ) → BitString o u → number_from_digits 256 o ≡ bits_number o u * 2 ^ u
number_bits o u b = let few = b.few in multiple (number_from_digits 256 o) u (number_mod o u (omega arith) ∙ b.zeros)

-- how many bits come after those of a bit string
pub after_bits : (w : ℕ) (o : List ℕ) (u : ℕ) → w % 8 ≡ 0 → Readable w o u → w - bit_count o u ≡ u + 8 * (w / 8 - length o)
after_bits w o u h r = let few = r.0.few in let none = r.0.none in grind arith

pub low_bits : (w : ℕ) (o : List ℕ) (u : ℕ) → w % 8 ≡ 0 → Readable w o u → low_of w o ≡ bits_number o u * 2 ^ (w - bit_count o u)
low_bits w o u h r =
    let j = w / 8 - length o in
    let b = bits_number o u in
    let e = after_bits w o u h r in
    low_number w o
    ∙ ap (λ x. x * 256 ^ j) (number_bits o u r.0)
    ∙ ap (λ x. b * 2 ^ u * x) (pow256 j)
    ∙ mul_assoc b (2 ^ u) (2 ^ (8 * j))
    ∙ ap (λ x. b * x) (sym (pow-add 2 u (8 * j)))
    ∙ ap (λ k. b * 2 ^ k) (sym e)

-- ---- the two ends

pub low_stands : (w : ℕ) (o : List ℕ) (u : ℕ) → w % 8 ≡ 0 → Readable w o u → low_of w o < 2 ^ w → LowEnd w o u (low_of w o)
low_stands w o u h r l =
    let t = w - bit_count o u in
    let b = bits_number o u in
    let e = low_bits w o u h r in
    let f : b * 2 ^ t ≡ b * 2 ^ t + 0 = omega arith in
    record {
      below = l;
      begins = ap (λ x. x / 2 ^ t) e ∙ shl-shr b t;
      ends = ap (λ x. x % 2 ^ t) (e ∙ f) ∙ mod_low b t 0 (pow_pos t);
    }

pub high_below : (w : ℕ) (o : List ℕ) (u : ℕ) → w % 8 ≡ 0 → Readable w o u → low_of w o < 2 ^ w → low_of w o + 2 ^ (w - bit_count o u) ≤ 2 ^ w
high_below w o u h r l =
    let t = w - bit_count o u in
    let b = bits_number o u in
    let e = low_bits w o u h r in
    let p : b * 2 ^ t + 2 ^ t ≤ 2 ^ w = block_end b t w (omega arith) (subst (λ x. x < 2 ^ w) e l) in
    omega arith

pub high_stands : (w : ℕ) (o : List ℕ) (u : ℕ) → w % 8 ≡ 0 → Readable w o u → low_of w o < 2 ^ w → HighEnd w o u (high_of w o u)
high_stands w o u h r l =
    let t = w - bit_count o u in
    let b = bits_number o u in
    let e = low_bits w o u h r in
    let p = pow_pos t in
    let q : 2 ^ t - 1 < 2 ^ t = omega arith in
    let f : high_of w o u ≡ b * 2 ^ t + (2 ^ t - 1) = omega arith in
    record {
      below = omega (arith, high_below w o u h r l);
      begins = ap (λ x. x / 2 ^ t) f ∙ shr_high b t (2 ^ t - 1) q;
      ends = omega (arith, ap (λ x. x % 2 ^ t) f ∙ mod_low b t (2 ^ t - 1) q);
    }

-- ---- the tests

pub bits_decide : (o : List ℕ) (u : ℕ) → Decides (bits_formed o u) (BitString o u)
bits_decide o u = (
  λ t. record { few = grind (arith, nat_tests); none = grind (arith, nat_tests); zeros = grind (arith, nat_tests) },
  λ b. let few = b.few in let none = b.none in let zeros = b.zeros in grind (arith, nat_tests),
)

pub readable_decides : (w : ℕ) (o : List ℕ) (u : ℕ) → Decides (readable w o u) (Readable w o u)
readable_decides w o u =
    let d = bits_decide o u in (
      λ t. (d.0 (grind (arith, nat_tests)), grind (arith, nat_tests)),
      λ r. let e = d.1 r.0 in let l = r.1 in grind (arith, nat_tests),
    )

pub octets_fit : (w : ℕ) (o : List ℕ) (u : ℕ) → w % 8 ≡ 0 → Readable w o u → length o ≤ w / 8
octets_fit w o u h r = let few = r.0.few in let l = r.1 in omega arith

-- ---- what the readers answer

-- zeros in front do not count
front_zeros : (j : ℕ) (xs : List ℕ) → number_from_digits 256 (replicate j 0 ++ xs) ≡ number_from_digits 256 xs
front_zeros j xs = number_after_append 256 0 (replicate j 0) xs ∙ ap (λ n. number_from_digits_after 256 n xs) (number_zeros 0 j ∙ omega arith)

-- octets that are written over zeros
pub between_is :
    (f : ℕ) (o y : List ℕ) → f + length o ≤ 16 → y ≡ o
    → put_mid f (f + length o - f) (replicate 16 0) y ≡ replicate f 0 ++ (o ++ replicate (16 - f - length o) 0)
between_is f o y h e =
    let z : List ℕ = replicate 16 0 in
    let n = f + length o in
    let k : length y ≡ length o = ap length e in
    let p : List ℕ = put_mid f (n - f) z y in
    let l : f ≤ length z = omega arith in
    let t : take n p ≡ take f z ++ y = take-put_mid f (n - f) z y n (omega arith) l in
    let d : drop n p ≡ drop n z = drop-put_mid f (n - f) z y n (omega arith) l (omega arith) in
    let s : 16 - n ≡ 16 - f - length o = omega arith in
    let r : drop n z ≡ replicate (16 - f - length o) 0 = drop-replicate n 16 0 ∙ ap (λ j. replicate j 0) s in
    let g : p ≡ (take f z ++ y) ++ drop n z = sym (take-append-drop n p) ∙ ap (λ (xs : List ℕ). xs ++ drop n p) t ∙ ap (λ (xs : List ℕ). (take f z ++ y) ++ xs) d in
    let m : (take f z ++ y) ++ drop n z ≡ replicate f 0 ++ (y ++ drop n z) = append_assoc (take f z) y (drop n z) ∙ ap (λ (xs : List ℕ). xs ++ (y ++ drop n z)) (take-replicate f 16 0 l) in
    g ∙ m ∙ ap (λ (xs : List ℕ). replicate f 0 ++ (y ++ xs)) r ∙ ap (λ (xs : List ℕ). replicate f 0 ++ (xs ++ replicate (16 - f - length o) 0)) e

pub padded_is :
    (w : ℕ) (o b : List ℕ) (a f : ℕ) → w ≤ 128 → length o ≤ w / 8 → f ≡ 16 - w / 8 → b ≡ replicate f 0 ++ (o ++ replicate (16 - f - length o) 0)
    → a ≡ from_be_bytes w128 b → a ≡ low_of w o
unfolding low_of
padded_is w o b a f m l g e r =
    let k : 16 - f - length o ≡ w / 8 - length o = omega arith in
    let front : List ℕ = replicate f 0 in
    let back : List ℕ = replicate (16 - f - length o) 0 in
    let n : length b ≡ 16 =
    omega (arith, ap length e, length-append front (o ++ back), length-append o back, length-replicate {A = ℕ} f 0, length-replicate {A = ℕ} (16 - f - length o) 0) in
    r
    ∙ be_number b n
    ∙ ap (number_from_digits 256) e
    ∙ front_zeros f (o ++ replicate (16 - f - length o) 0)
    ∙ ap (λ x. number_from_digits 256 (o ++ replicate x 0)) k

pub low_below : (w : ℕ) (o : List ℕ) → w % 8 ≡ 0 → length o ≤ w / 8 → ((i : ℕ) → get_or o i 0 < 256) → low_of w o < 2 ^ w
low_below w o h l f =
    let j = w / 8 - length o in
    let n : number_from_digits 256 o < 256 ^ length o = number_lt 256 o (All-from_get_or (λ d. d < 256) o 0 (λ i _. f i)) in
    let p = pow_pos (8 * j) in
    let q : 0 < 256 ^ j = omega (arith, pow256 j) in
    let m : number_from_digits 256 o * 256 ^ j < 256 ^ length o * 256 ^ j = mul-lt-mul_of_pos_right n q in
    let s : length o + j ≡ w / 8 = omega arith in
    let e : 256 ^ length o * 256 ^ j ≡ 2 ^ w = sym (pow-add 256 (length o) j) ∙ ap (λ x. 256 ^ x) s ∙ pow_width w h in
    omega (arith, low_number w o, m, e)

pub low-answer :
    (w : ℕ) (o : List ℕ) (u a : ℕ) → w % 8 ≡ 0 → true ≡ readable w o u → (length o ≤ w / 8 → a ≡ low_of w o) → a < 2 ^ w
    → (Some a ≡ low_end w o u) × LowEnd w o u a
low-answer w o u a h t f l =
    let r = (readable_decides w o u).0 (sym t) in
    let e = f (octets_fit w o u h r) in
    (ap Some e ∙ sym (cond-true (readable w o u) (Some (low_of w o)) None (sym t)), subst (LowEnd w o u) (sym e) (low_stands w o u h r (subst (λ x. x < 2 ^ w) e l)))

pub high-answer :
    (w : ℕ) (o : List ℕ) (u a k m : ℕ) → w % 8 ≡ 0 → true ≡ readable w o u → (length o ≤ w / 8 → a ≡ low_of w o) → a < 2 ^ w
    → k ≡ w - 8 * length o + u → m + 1 ≡ 2 ^ k → (Some (a + m) ≡ high_end w o u) × HighEnd w o u (a + m)
high-answer w o u a k m h t f l p q =
    let r = (readable_decides w o u).0 (sym t) in
    let fit = octets_fit w o u h r in
    let e = f fit in
    let g : k ≡ w - bit_count o u = omega (arith, after_bits w o u h r) in
    let n : m + 1 ≡ 2 ^ (w - bit_count o u) = q ∙ ap (λ x. 2 ^ x) g in
    let s : a + m ≡ high_of w o u = omega arith in
    (ap Some s ∙ sym (cond-true (readable w o u) (Some (high_of w o u)) None (sym t)), subst (HighEnd w o u) (sym s) (high_stands w o u h r (subst (λ x. x < 2 ^ w) e l)))

pub whole : (v : Family) → width v % 8 ≡ 0
whole Ipv4 = refl
whole Ipv6 = refl

pub most : (v : Family) → width v ≤ 128
most Ipv4 = omega arith
most Ipv6 = omega arith

pub below128 : (v : Family) (a : ℕ) → a < 2 ^ width v → a < 2 ^ 128
below128 Ipv4 a h = omega arith
below128 Ipv6 a h = h
