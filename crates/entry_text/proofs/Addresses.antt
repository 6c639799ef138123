-- The entries of lists of addresses: what is written reads back, and what reads was written so. Assumes nothing.
use Rattle.std.proofs.Common.{◌≡◌, ℕ, suc, ◌+◌, ◌-◌, ◌*◌, ◌/◌, ◌%◌, ◌^◌, ◌<◌, ◌≤◌, Bool, true, false, not, ◌&&◌, ltb, List, [], ◌∷◌, ◌++◌, length, get_or, take, Some, None, Ok, Option, sym, refl, ap, ◌∙◌, subst, inl, inr, mul-le-mul_right, add-mul, arith, length-append, pow-add}
use Rattle.std.proofs.lemmas.Nat.{pow_pos, shr_split}
use Rattle.std.proofs.lemmas.Bool.{cases_Bool, lt-ltb, ltb-true, not-true, not_from_false, and_from, and_parts, cond-true, cond-false, both_ways}
use Rattle.std.specs.Int.Digits.{number_from_digits}
use Rattle.std.proofs.lemmas.Int.Digits.{number_lt}
use Rattle.std.proofs.ByRecursion.{All-from_get_or}
use Rattle.content.specs.Forms.{bits_form}
use Rattle.content.specs.Grammar.{BitStringContent}
use Rattle.content.specs.Values.{bits_of as bitsIn-content}
use Rattle.content.proofs.Decided.{bits_decides}
use Rattle.element.specs.Lengths.{encoded}
use Rattle.element.specs.Reading.{Seen, Octets, read_of}
use Rattle.element.specs.Grammar.{Begins}
use Rattle.family.specs.declared.Family.{Family}
use Rattle.family.specs.Widths.{width}
use Rattle.prefixes.specs.Reading.{BitString, bit_count, Readable, readable, low_of, high_of, low_end, high_end, last_bit, last_octet}
use Rattle.prefixes.specs.Ranges.{shared_tail, one_prefix, OnePrefix}
use Rattle.prefixes.specs.Theorems.{Octets as EachOctet}
use Rattle.prefixes.specs.Writing.{prefix_count, low_count, high_count, octets_for, unused_for, octets_of, bits_of}
use Rattle.prefixes.proofs.Powers.{pow256, pow_width}
use Rattle.prefixes.proofs.Ends.{readable_decides, octets_fit, low_number, high_below, low_stands, high_stands, whole, most}
use Rattle.prefixes.proofs.Tails.{shared_is, prefix_decides}
use Rattle.prefixes.proofs.Laws.{has_octets, prefix_reads_back, range_reads_back, low_ends, one_encoding}
use Rattle.prefixes.proofs.Shortest.{fewest_bits}
use Rattle.entries.specs.Addresses.{then_some, given, prefix_ends, ends_low, ends_high, low_half, high_half, is_range, pair_of, inside, address_entry}
use Rattle.entry_text.specs.Texts.{bit_text, halves_text, address_text}
use Rattle.entry_text.proofs.Elements.{then_some_ok, given_ok, cond_ok, cond_some, tag_cases, begun, each_content, each_low, each_high, each_tail, length_short, element_at, read-text}
use Rattle.entry_text.proofs.Pairs.{Half, pair-back, pair_read}
use Rattle.entry_text.proofs.Points.{Said, said-as, NumberLaws}

-- ---- a BIT STRING's content: the count of unused bits, and then the octets

some_same : {V : Type 0} (x y : V) → Some x ≡ Some y → x ≡ y
some_same x y e = cc

zeros_none : (u : ℕ) → 0 % 2 ^ u ≡ 0
zeros_none u = let p = pow_pos u in omega arith

last_place : (u x : ℕ) (o : List ℕ) → get_or (u ∷ (x ∷ o)) (length (u ∷ (x ∷ o)) - 1) 0 ≡ last_octet (x ∷ o)
last_place u x o =
    let e : suc (suc (length o)) - 1 ≡ suc (length o) = omega arith in
    let f : suc (length o) - 1 ≡ length o = omega arith in
    ap (λ (k : ℕ). get_or (u ∷ (x ∷ o)) k 0) e ∙ sym (ap (λ (k : ℕ). get_or (x ∷ o) k 0) f)

last_down : (u x : ℕ) (o : List ℕ) → get_or (u ∷ (x ∷ o)) (length (u ∷ (x ∷ o)) - 1) 0 % 2 ^ u ≡ 0 → last_octet (x ∷ o) % 2 ^ u ≡ 0
last_down u x o h = ap (λ (y : ℕ). y % 2 ^ u) (sym (last_place u x o)) ∙ h

last_up : (u x : ℕ) (o : List ℕ) → last_octet (x ∷ o) % 2 ^ u ≡ 0 → get_or (u ∷ (x ∷ o)) (length (u ∷ (x ∷ o)) - 1) 0 % 2 ^ u ≡ 0
last_up u x o h = ap (λ (y : ℕ). y % 2 ^ u) (last_place u x o) ∙ h

pair_first : (r o : List ℕ) (x u : ℕ) → ◌≡◌ {A = Option (List ℕ × ℕ)} (Some (r, x)) (Some (o, u)) → r ≡ o
pair_first r o x u e = ap (λ (p : List ℕ × ℕ). p.0) (some_same _ _ e)

pair_second : (r o : List ℕ) (x u : ℕ) → ◌≡◌ {A = Option (List ℕ × ℕ)} (Some (r, x)) (Some (o, u)) → x ≡ u
pair_second r o x u e = ap (λ (p : List ℕ × ℕ). p.1) (some_same _ _ e)

-- a content as a bit string, and a bit string as a content
string_of : (u : ℕ) (o : List ℕ) → BitStringContent (u ∷ o) → BitString o u
string_of u [] b = record { few = b.few; none = λ _. b.none refl; zeros = zeros_none u }
string_of u (x ∷ o) b = record { few = b.few; none = λ e. absurd (omega arith); zeros = last_down u x o (b.zero (omega arith)) }

content_of : (u : ℕ) (o : List ℕ) → BitString o u → BitStringContent (u ∷ o)
content_of u [] b = record { counted = omega arith; few = b.few; none = λ _. b.none refl; zero = λ h. absurd (omega arith) }
content_of u (x ∷ o) b = record { counted = omega arith; few = b.few; none = λ h. absurd (omega arith); zero = λ h. last_up u x o b.zeros }

-- what stands in a content
content_is : (c o : List ℕ) (u : ℕ) → bitsIn-content c ≡ Some (o, u) → BitString o u × (c ≡ u ∷ o)
content_is [] o u e = let z : ◌≡◌ {A = ℕ} 0 1 = cc in absurd (omega arith)
content_is (x ∷ r) o u e =
    let h = cond_some (bits_form (x ∷ r)) (Some (r, x)) (o, u) e in
    let b = (bits_decides (x ∷ r)).0 h.0 in
    let p : r ≡ o = pair_first r o x u h.1 in
    let v : x ≡ u = pair_second r o x u h.1 in (
      subst (λ (y : List ℕ). BitString y u) p (subst (BitString r) v (string_of x r b)),
      ap (λ (y : ℕ). y ∷ r) v ∙ ap (λ (y : List ℕ). u ∷ y) p,
    )

-- a bit string is read as it is written
bits_read : (u : ℕ) (o : List ℕ) → BitString o u → bitsIn-content (u ∷ o) ≡ Some (o, u)
bits_read u o b = cond-true (bits_form (u ∷ o)) _ _ ((bits_decides (u ∷ o)).1 (content_of u o b))

-- ---- what the ends of a bit string say

low_some : (w : ℕ) (o : List ℕ) (u a : ℕ) → Readable w o u → low_of w o ≡ a → low_end w o u ≡ Some a
low_some w o u a r e = cond-true _ _ _ ((readable_decides w o u).1 r) ∙ ap Some e

high_some : (w : ℕ) (o : List ℕ) (u z : ℕ) → Readable w o u → high_of w o u ≡ z → high_end w o u ≡ Some z
high_some w o u z r e = cond-true _ _ _ ((readable_decides w o u).1 r) ∙ ap Some e

some_low : (w : ℕ) (o : List ℕ) (u a : ℕ) → low_end w o u ≡ Some a → Readable w o u × (low_of w o ≡ a)
some_low w o u a e = let h = cond_some (readable w o u) (Some (low_of w o)) a e in ((readable_decides w o u).0 h.0, some_same _ _ h.1)

some_high : (w : ℕ) (o : List ℕ) (u z : ℕ) → high_end w o u ≡ Some z → Readable w o u × (high_of w o u ≡ z)
some_high w o u z e = let h = cond_some (readable w o u) (Some (high_of w o u)) z e in ((readable_decides w o u).0 h.0, some_same _ _ h.1)

-- the last bit
low_from : (b : Option Bool) → (b ≡ Some false → ⊥) → ends_low b ≡ true
low_from None h = refl
low_from (Some true) h = refl
low_from (Some false) h = absurd (h refl)

low_to : (b : Option Bool) → ends_low b ≡ true → b ≡ Some false → ⊥
low_to b e h = both_ways (ends_low b) (ap ends_low h) e

high_from : (b : Option Bool) → (b ≡ Some true → ⊥) → ends_high b ≡ true
high_from None h = refl
high_from (Some true) h = absurd (h refl)
high_from (Some false) h = refl

high_to : (b : Option Bool) → ends_high b ≡ true → b ≡ Some true → ⊥
high_to b e h = both_ways (ends_high b) (ap ends_high h) e

-- the bits that are written are as many as they are
count_is : (n : ℕ) → 8 * octets_for n - unused_for n ≡ n
count_is n = omega arith

octets_most : (n : ℕ) → n ≤ 128 → octets_for n ≤ 16
octets_most n h = omega arith

-- ---- addresses whose bits after the first n are left out

same_bits : (w a b n : ℕ) → a / 2 ^ (w - n) ≡ b / 2 ^ (w - n) → bits_of w a n ≡ bits_of w b n
unfolding bits_of
same_bits w a b n e =
    let k = w - n in
    let p = shr_split a k in
    let q = shr_split b k in
    let m : a / 2 ^ k * 2 ^ k ≡ b / 2 ^ k * 2 ^ k = ap (λ (x : ℕ). x * 2 ^ k) e in
    let g : a - a % 2 ^ k ≡ b - b % 2 ^ k = omega arith in
    ap (λ (x : ℕ). take (octets_for n) (octets_of (w / 8) x)) g

strictly : (a z : ℕ) → a ≤ z → (a ≡ z → ⊥) → a < z
strictly a z l n = omega arith

module _ (v : Family) where
  abbrev pub wide : ℕ
  wide = width v

  -- the content of the BIT STRING of n bits
  abbrev pub content : ℕ → ℕ → List ℕ
  content a n = unused_for n ∷ bits_of wide a n

  pub content_most : (a n : ℕ) → n ≤ wide → length (content a n) ≤ 17
  content_most a n h =
      let e = (has_octets v a n h).0 in
      let m = most v in
      let s = octets_most n (omega arith) in
      omega arith

  bit_count_lem : (a n : ℕ) → n ≤ wide → bit_count (bits_of wide a n) (unused_for n) ≡ n
  bit_count_lem a n h = let e = (has_octets v a n h).0 in ap (λ (x : ℕ). 8 * x - unused_for n) e ∙ count_is n

  pub bit_length : (a n : ℕ) → n ≤ wide → length (bit_text wide a n) ≤ 19
  unfolding bit_text
  bit_length a n h = let m = content_most a n h in let e = length_short 3 (content a n) (omega arith) in omega arith

  bit_some : (a n : ℕ) → 0 < length (bit_text wide a n)
  unfolding bit_text
  bit_some a n = omega arith

  pub halves_length : (a z : ℕ) → length (halves_text wide a z) ≤ 38
  unfolding halves_text
  halves_length a z =
      let e = length-append (bit_text wide a (low_count wide a)) (bit_text wide z (high_count wide z)) in
      let x = bit_length a (low_count wide a) (omega arith) in
      let y = bit_length z (high_count wide z) (omega arith) in
      omega arith

  pub text_prefix : (a z : ℕ) → one_prefix wide a z ≡ true → address_text wide a z ≡ encoded 3 (content a (prefix_count wide a z))
  unfolding address_text bit_text
  text_prefix a z e = cond-true _ _ _ e

  pub text_range : (a z : ℕ) → one_prefix wide a z ≡ false → address_text wide a z ≡ encoded 48 (halves_text wide a z)
  unfolding address_text
  text_range a z e = cond-false _ _ _ e

  -- ---- what is written reads back

  prefix-says :
      (a z at : ℕ) → a < 2 ^ wide → OnePrefix wide a z → address_entry wide (element_at at 3 (content a (prefix_count wide a z))) ≡ Ok (a, z)
  prefix-says a z at s p =
      let b = prefix_reads_back v a z s p in
      let n = prefix_count wide a z in
      let o = bits_of wide a n in
      let u = unused_for n in
      ap (λ (x : Option (List ℕ × ℕ)). given at (then_some x (prefix_ends wide))) (bits_read u o b.prefix_readable.0)
      ∙ ap (λ (x : Option ℕ). given at (then_some x (λ c. then_some (high_end wide o u) (λ d. Some (c, d))))) (low_some wide o u a b.prefix_readable b.low)
      ∙ ap (λ (x : Option ℕ). given at (then_some x (λ d. Some (a, d)))) (high_some wide o u z b.prefix_readable b.high)

  prefix-read :
      (a z at : ℕ) (q : List ℕ) → a < 2 ^ wide → OnePrefix wide a z
      → read_of (encoded 3 (content a (prefix_count wide a z)) ++ q) at
      ≡ Ok (element_at at 3 (content a (prefix_count wide a z)), record { octets = q; place = at + length (encoded 3 (content a (prefix_count wide a z))) })
  prefix-read a z at q s p =
      let b = prefix_reads_back v a z s p in
      let n = prefix_count wide a z in
      let m = content_most a n (omega arith) in
      read-text at 3 (content a n) q (omega arith) (content_of (unused_for n) (bits_of wide a n) b.prefix_readable.0)

  abbrev low_read : List ℕ → Option ℕ
  low_read c = then_some (bitsIn-content c) (low_half wide)

  abbrev high_read : List ℕ → Option ℕ
  high_read c = then_some (bitsIn-content c) (high_half wide)

  low_half_lem : (a : ℕ) → a < 2 ^ wide → Half 3 low_read high_read (is_range wide) low_read (content a (low_count wide a)) a
  low_half_lem a s =
      let b = range_reads_back v a s in
      let n = low_count wide a in
      let o = bits_of wide a n in
      let u = unused_for n in
      let m = content_most a n (omega arith) in
      let count : bit_count o u ≡ low_count wide (low_of wide o) = bit_count_lem a n (omega arith) ∙ ap (low_count wide) (sym b.low) in
      let last = low_from (last_bit o u) ((fewest_bits v o u b.low_readable).low_only count) in
      record {
        short = omega arith;
        form = content_of u o b.low_readable.0;
        value = ap (λ (x : Option (List ℕ × ℕ)). then_some x (low_half wide)) (bits_read u o b.low_readable.0)
            ∙ cond-true _ _ _ last ∙ low_some wide o u a b.low_readable b.low;
      }

  high_half_lem : (z : ℕ) → z < 2 ^ wide → Half 3 low_read high_read (is_range wide) high_read (content z (high_count wide z)) z
  high_half_lem z s =
      let b = range_reads_back v z s in
      let n = high_count wide z in
      let o = bits_of wide z n in
      let u = unused_for n in
      let m = content_most z n (omega arith) in
      let count : bit_count o u ≡ high_count wide (high_of wide o u) = bit_count_lem z n (omega arith) ∙ ap (high_count wide) (sym b.high) in
      let last = high_from (last_bit o u) ((fewest_bits v o u b.high_readable).high_only count) in
      record {
        short = omega arith;
        form = content_of u o b.high_readable.0;
        value = ap (λ (x : Option (List ℕ × ℕ)). then_some x (high_half wide)) (bits_read u o b.high_readable.0)
            ∙ cond-true _ _ _ last ∙ high_some wide o u z b.high_readable b.high;
      }

  range-says :
      (a z at : ℕ) → a < z → z < 2 ^ wide → one_prefix wide a z ≡ false → address_entry wide (element_at at 48 (halves_text wide a z)) ≡ Ok (a, z)
  unfolding halves_text bit_text
  range-says a z at l s e =
      pair-back 3 low_read high_read (is_range wide) _ a z (content a (low_count wide a)) (content z (high_count wide z)) (low_half_lem a (omega arith)) (high_half_lem z s)
      (λ place. cond-true _ _ _ (and_from (ltb a z) (not (one_prefix wide a z)) (lt-ltb a z l) (not_from_false _ e)))

  -- one address is one prefix
  one_address : (a z : ℕ) → a ≡ z → OnePrefix wide a z
  one_address a z e = (0, omega arith, omega arith, omega arith)

  addresses_back : (a z : ℕ) → a ≤ z → z < 2 ^ wide → (at : ℕ) (q : List ℕ) → Said (2 ^ wide) (address_entry wide) (address_text wide) a z at q
  addresses_back a z l s at q =
      let few : a < 2 ^ wide = omega arith in
      elim (cases_Bool (one_prefix wide a z)) [
        | inl e ↦ (let p = (prefix_decides wide a z).0 e in
            said-as (2 ^ wide) (address_entry wide) (address_text wide) a z at q _ _ (text_prefix a z e) (prefix-read a z at q few p) (prefix-says a z at few p))
        | inr e ↦ (let n = halves_length a z in
            let ne : a ≡ z → ⊥ = λ i. both_ways (one_prefix wide a z) e ((prefix_decides wide a z).1 (one_address a z i)) in
            let up : a < z = strictly a z l ne in
            said-as (2 ^ wide) (address_entry wide) (address_text wide) a z at q _ _ (text_range a z e) (read-text at 48 (halves_text wide a z) q (omega arith) tt) (range-says a z at up s e))
      ]

  -- ---- what reads was written so

  abbrev Was : List ℕ → List ℕ → ℕ → ℕ → Type 0
  Was s q a z = (s ≡ address_text wide a z ++ q) × (a ≤ z) × (z < 2 ^ wide)

  low_below : (o : List ℕ) (u : ℕ) → EachOctet o → Readable wide o u → low_of wide o < 2 ^ wide
  low_below o u g r =
      let k = length o in
      let j = wide / 8 - k in
      let fit = octets_fit wide o u (whole v) r in
      let small = number_lt 256 o (All-from_get_or (λ (x : ℕ). x < 256) o 0 g) in
      let e = low_number wide o in
      let p : 0 < 256 ^ j = subst (λ (x : ℕ). 0 < x) (sym (pow256 j)) (pow_pos (8 * j)) in
      let m : (number_from_digits 256 o + 1) * 256 ^ j ≤ 256 ^ k * 256 ^ j = mul-le-mul_right (256 ^ j) (omega arith) in
      let n : (number_from_digits 256 o + 1) * 256 ^ j ≡ number_from_digits 256 o * 256 ^ j + 1 * 256 ^ j = add-mul (number_from_digits 256 o) 1 (256 ^ j) in
      let i : k + j ≡ wide / 8 = omega arith in
      let s : 256 ^ k * 256 ^ j ≡ 2 ^ wide = sym (pow-add 256 k j) ∙ ap (λ (x : ℕ). 256 ^ x) i ∙ pow_width wide (whole v) in
      omega arith

  high_less : (o : List ℕ) (u : ℕ) → EachOctet o → Readable wide o u → high_of wide o u < 2 ^ wide
  high_less o u g r =
      let h = high_below wide o u (whole v) r (low_below o u g r) in
      let p = pow_pos (wide - bit_count o u) in
      omega arith

  -- the bits of a prefix that was read are those that are written for its two ends
  abbrev prefix_of : (o : List ℕ) (u : ℕ) → Readable wide o u → OnePrefix wide (low_of wide o) (high_of wide o u)
  prefix_of o u r = (wide - bit_count o u, omega arith, low_ends wide o u (whole v) r, omega (arith, pow_pos (wide - bit_count o u)))

  prefix_count_lem : (o : List ℕ) (u : ℕ) → Readable wide o u → prefix_count wide (low_of wide o) (high_of wide o u) ≡ bit_count o u
  prefix_count_lem o u r =
      let e : shared_tail wide (low_of wide o) (high_of wide o u) ≡ wide - bit_count o u = shared_is wide (low_of wide o) (high_of wide o u) (prefix_of o u r) in
      let l = r.1 in
      omega arith

  -- the content of n bits, where these are the bits of a bit string
  content_again : (o : List ℕ) (u n : ℕ) → EachOctet o → Readable wide o u → bit_count o u ≡ n → content (low_of wide o) n ≡ u ∷ o
  content_again o u n g r e =
      let h = one_encoding v o u g r in
      ap (content (low_of wide o)) (sym e) ∙ ap (λ (x : ℕ). x ∷ bits_of wide (low_of wide o) (bit_count o u)) h.1 ∙ ap (λ (x : List ℕ). u ∷ x) h.0

  prefix_text_lem : (o : List ℕ) (u : ℕ) → EachOctet o → Readable wide o u → address_text wide (low_of wide o) (high_of wide o u) ≡ encoded 3 (u ∷ o)
  prefix_text_lem o u g r =
      text_prefix (low_of wide o) (high_of wide o u) ((prefix_decides wide (low_of wide o) (high_of wide o u)).1 (prefix_of o u r))
      ∙ ap (encoded 3) (content_again o u (prefix_count wide (low_of wide o) (high_of wide o u)) g r (sym (prefix_count_lem o u r)))

  ends_was : (o : List ℕ) (u a z : ℕ) → prefix_ends wide (o, u) ≡ Some (a, z) → Readable wide o u × (low_of wide o ≡ a) × (high_of wide o u ≡ z)
  ends_was o u a z e =
      let h = then_some_ok (low_end wide o u) _ (a, z) e in
      let i = then_some_ok (high_end wide o u) _ (a, z) h.2 in
      let p = some_same _ _ i.2 in
      let l = some_low wide o u h.0 h.1 in
      let k = some_high wide o u i.0 i.1 in
      (l.0, l.1 ∙ ap (λ (x : ℕ × ℕ). x.0) p, k.1 ∙ ap (λ (x : ℕ × ℕ). x.1) p)

  prefix-was :
      (s c q : List ℕ) (place a z : ℕ) → EachOctet s → Begins s 3 c q → given place (then_some (bitsIn-content c) (prefix_ends wide)) ≡ Ok (a, z) → Was s q a z
  prefix-was s c q place a z g b e =
      let h = then_some_ok (bitsIn-content c) (prefix_ends wide) (a, z) (given_ok _ _ _ e) in
      let o = h.0.0 in
      let u = h.0.1 in
      let i = content_is c o u h.1 in
      let go = each_tail u o (subst EachOctet i.1 (each_content s 3 c q g b)) in
      let k = ends_was o u a z h.2 in
      let small = high_less o u go k.0 in
      let p = pow_pos (wide - bit_count o u) in
      let ea = k.1 in
      let ez = k.2 in (
        b.octets ∙ ap (λ (x : List ℕ). encoded 3 x ++ q) i.1 ∙ ap (λ (x : List ℕ). x ++ q) (sym (prefix_text_lem o u go k.0))
            ∙ ap (λ (x : ℕ). address_text wide x (high_of wide o u) ++ q) ea ∙ ap (λ (x : ℕ). address_text wide a x ++ q) ez,
        omega arith,
        omega arith,
      )

  low_was : (c : List ℕ) (a : ℕ) → EachOctet c → low_read c ≡ Some a → encoded 3 c ≡ bit_text wide a (low_count wide a)
  unfolding bit_text
  low_was c a g e =
      let h = then_some_ok (bitsIn-content c) (low_half wide) a e in
      let o = h.0.0 in
      let u = h.0.1 in
      let i = content_is c o u h.1 in
      let go = each_tail u o (subst EachOctet i.1 g) in
      let j = cond_some (ends_low (last_bit o u)) (low_end wide o u) a h.2 in
      let k = some_low wide o u a j.1 in
      let n = (fewest_bits v o u k.0).low (low_to (last_bit o u) j.0) in
      ap (encoded 3) (i.1 ∙ sym (content_again o u (low_count wide (low_of wide o)) go k.0 n) ∙ ap (λ (x : ℕ). content x (low_count wide x)) k.1)

  high_was : (c : List ℕ) (z : ℕ) → EachOctet c → high_read c ≡ Some z → (encoded 3 c ≡ bit_text wide z (high_count wide z)) × (z < 2 ^ wide)
  unfolding bit_text
  high_was c z g e =
      let h = then_some_ok (bitsIn-content c) (high_half wide) z e in
      let o = h.0.0 in
      let u = h.0.1 in
      let i = content_is c o u h.1 in
      let go = each_tail u o (subst EachOctet i.1 g) in
      let j = cond_some (ends_high (last_bit o u)) (high_end wide o u) z h.2 in
      let k = some_high wide o u z j.1 in
      let n = (fewest_bits v o u k.0).high (high_to (last_bit o u) j.0) in
      let ez = k.1 in
      let less = low_below o u go k.0 in
      let top = high_less o u go k.0 in
      let lo = (low_stands wide o u (whole v) k.0 less).begins in
      let hi = (high_stands wide o u (whole v) k.0 less).begins in
      let same : bits_of wide (low_of wide o) (bit_count o u) ≡ bits_of wide (high_of wide o u) (bit_count o u) = same_bits wide (low_of wide o) (high_of wide o u) (bit_count o u) (lo ∙ sym hi) in (
        ap (encoded 3) (i.1 ∙ sym (content_again o u (bit_count o u) go k.0 refl) ∙ ap (λ (x : List ℕ). unused_for (bit_count o u) ∷ x) same
            ∙ ap (content (high_of wide o u)) n ∙ ap (λ (x : ℕ). content x (high_count wide x)) ez),
        omega arith,
      )

  range-was :
      (s c q : List ℕ) (place a z : ℕ) → EachOctet s → Begins s 48 c q → pair_of wide record { octets = c; place = place } ≡ Ok (a, z) → Was s q a z
  unfolding halves_text
  range-was s c q place a z g b e =
      let oc = each_content s 48 c q g b in
      let r = pair_read 3 low_read high_read (is_range wide) record { octets = c; place = place } a z oc e in
      let t = and_parts (ltb a z) (not (one_prefix wide a z)) (cond_ok (ltb a z && not (one_prefix wide a z)) tt tt _ r.passed).0 in
      let l : a < z = ltb-true a z t.0 in
      let ol = subst EachOctet r.octets oc in
      let i = low_was r.low a (each_low 3 r.low r.high ol) r.first.value in
      let j = high_was r.high z (each_high 3 r.low r.high ol) r.second.value in (
        b.octets
            ∙ ap (λ (x : List ℕ). encoded 48 x ++ q) (r.octets ∙ ap (λ (x : List ℕ). x ++ encoded 3 r.high) i ∙ ap (λ (x : List ℕ). bit_text wide a (low_count wide a) ++ x) j.0)
            ∙ ap (λ (x : List ℕ). x ++ q) (sym (text_range a z (not-true _ t.1))),
        omega arith,
        j.1,
      )

  addresses-one :
      (s : List ℕ) (at : ℕ) (e : Seen) (q : Octets) (a z : ℕ) → EachOctet s → read_of s at ≡ Ok (e, q) → address_entry wide e ≡ Ok (a, z) → Was s q.octets a z
  addresses-one s at e q a z g p h =
      let b = begun s at e q g p in
      elim (tag_cases e.tag 3 48 (given e.place (then_some (bitsIn-content e.content) (prefix_ends wide))) (pair_of wide (inside e)) _ (a, z) h) [
        | inl i ↦ prefix-was s e.content q.octets e.place a z g (subst (λ (t : ℕ). Begins s t e.content q.octets) i.0 b) i.1
        | inr i ↦ range-was s e.content q.octets e.content_place a z g (subst (λ (t : ℕ). Begins s t e.content q.octets) i.0 b) i.1
      ]

  text_some : (a z : ℕ) → 0 < length (address_text wide a z)
  text_some a z =
      elim (cases_Bool (one_prefix wide a z)) [
        | inl e ↦ (let i = ap length (text_prefix a z e) in omega arith)
        | inr e ↦ (let i = ap length (text_range a z e) in omega arith)
      ]

  text_short : (a z : ℕ) → length (address_text wide a z) ≤ 40
  text_short a z =
      elim (cases_Bool (one_prefix wide a z)) [
        | inl e ↦ (let i = ap length (text_prefix a z e) in let n = prefix_count wide a z in let m = content_most a n (omega arith) in let j = length_short 3 (content a n) (omega arith) in omega arith)
        | inr e ↦ (let i = ap length (text_range a z e) in let m = halves_length a z in let j = length_short 48 (halves_text wide a z) (omega arith) in omega arith)
      ]

  pub address_laws : NumberLaws (2 ^ wide) (address_entry wide) (address_text wide)
  address_laws = record { reads_back = addresses_back; one_encoding = addresses-one; some = text_some; short = text_short }
