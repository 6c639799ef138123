-- What the parts of an entry are as octets. Assumes nothing.
use Rattle.std.proofs.Common.{◌≡◌, ℕ, zero, suc, ◌+◌, ◌-◌, ◌*◌, ◌/◌, ◌%◌, ◌^◌, ◌<◌, ◌≤◌, true, false, w64, List, [], ◌∷◌, ◌++◌, length, get_or, take, drop, sym, refl, ap, ◌∙◌, append_assoc, pow-suc, pow_mono, inl, inr, arith, length-append}
use Rattle.std.proofs.Math.Nat.{div-div-eq-div-mul}
use Rattle.std.proofs.lemmas.Bool.{cases_lt}
use Rattle.std.proofs.lemmas.Bool.Decides.{nat_tests}
use Rattle.std.proofs.lemmas.List.{length-take, take_more, take_all}
use Rattle.std.specs.Int.{Width, byte_len, byte_at, bytes_high_first, to_be_bytes}
use Rattle.family.specs.declared.Family.{Family}
use Rattle.family.specs.Widths.{width}
use Rattle.element.specs.Lengths.{encoded}
use Rattle.element.proofs.Headers.{lengths_short}
use Rattle.prefixes.specs.Ranges.{one_prefix}
use Rattle.prefixes.specs.Writing.{prefix_count, low_count, high_count, octets_for, octets_of, bits_of, unused_for}
use Rattle.prefixes.proofs.Ends.{most}
use Rattle.prefixes.proofs.Laws.{has_octets}
use Rattle.prefixes.proofs.Octets.{length_octets_lem}
use Rattle.entry_text.specs.Texts.{bit_text, halves_text, address_text, number_size, integer_text, number_text}
use Rattle.entry_text.proofs.Elements.{length_short}
use Rattle.entry_text.proofs.Addresses.{content as bits, content_most, bit_length, text_prefix, text_range}
use Rattle.entry_text.proofs.AsNumbers.{content_most as number_most, integer_length, pair_length, text_one, text_more}

-- ---- numbers

-- where m is how many bits a number has, it is below 2 ^ k where they are k at most
bits_within : (k m a : ℕ) → 2 ^ m ≤ 2 * a + 1 → a < 2 ^ k → m ≤ k
bits_within k m a low h =
    elim (cases_lt k m) [
      | inl l ↦ (let p = pow_mono {i = suc k} {j = m} (omega arith) in absurd (omega (arith, p, pow-suc 2 k)))
      | inr r ↦ r
    ]

bits_past : (k m a : ℕ) → a < 2 ^ m → 2 ^ k ≤ a → k < m
bits_past k m a high h =
    elim (cases_lt k m) [
      | inl l ↦ l
      | inr r ↦ (let p = pow_mono {i = m} {j = k} r in absurd (omega (arith, p)))
    ]

pub size_is : (a m : ℕ) → a < 2 ^ m → 2 ^ m ≤ 2 * a + 1 → a < 2 ^ 32 → 1 + m / 8 ≡ number_size a
size_is a m high low fits =
    let w = bits_within 32 m a low fits in
    let w7 = bits_within 7 m a low in
    let w15 = bits_within 15 m a low in
    let w23 = bits_within 23 m a low in
    let w31 = bits_within 31 m a low in
    let p7 = bits_past 7 m a high in
    let p15 = bits_past 15 m a high in
    let p23 = bits_past 23 m a high in
    let p31 = bits_past 31 m a high in
    grind (arith, nat_tests)

next_byte : (k n : ℕ) → byte_at k (n / 256) ≡ byte_at (suc k) n
next_byte zero n = refl
next_byte (suc k) n =
    let e : 256 * 256 ^ suc k ≡ 256 ^ suc (suc k) = omega (arith, pow-suc 256 (suc k)) in
    ap (λ (x : ℕ). x % 256) (div-div-eq-div-mul n 256 (256 ^ suc k) ∙ ap (λ (x : ℕ). n / x) e)

-- the octets by the highest
top_octet : (k n : ℕ) → octets_of (suc k) n ≡ byte_at k n ∷ octets_of k n
unfolding octets_of
top_octet zero n = refl
top_octet (suc k) n =
    ap (λ (xs : List ℕ). xs ++ (n % 256 ∷ [])) (top_octet k (n / 256)) ∙ ap (λ (b : ℕ). b ∷ octets_of (suc k) n) (next_byte k n)

high_first : (k n : ℕ) → bytes_high_first k n ≡ octets_of k n
unfolding octets_of
high_first zero n = refl
high_first (suc k) n = ap (λ (xs : List ℕ). byte_at k n ∷ xs) (high_first k n) ∙ sym (top_octet k n)

low_part : (j m size n : ℕ) → m ≡ j + size → drop j (bytes_high_first m n) ≡ bytes_high_first size n
low_part zero m size n e = let f : m ≡ size = omega arith in ap (λ (x : ℕ). bytes_high_first x n) f
low_part (suc j) zero size n e = absurd (omega arith)
low_part (suc j) (suc m) size n e = low_part j m size n (omega arith)

low_octets : (j size n : ℕ) (w : Width) → byte_len w ≡ j + size → drop j (to_be_bytes w n) ≡ octets_of size n
low_octets j size n w e = low_part j (byte_len w) size n e ∙ high_first size n

pub last_octets : (size n : ℕ) → size ≤ 8 → drop (8 - size) (to_be_bytes w64 n) ≡ octets_of size n
last_octets size n h = low_octets (8 - size) size n w64 (omega arith)

-- ---- elements

short_text : (t : ℕ) (c : List ℕ) → length c < 128 → (t ∷ (length c ∷ [])) ++ c ≡ encoded t c
short_text t c h = ap (λ (x : List ℕ). (t ∷ x) ++ c) (sym (lengths_short (length c) h))

-- a head and then a content at the end of a text
pub element_is :
    (t size : ℕ) (old head new c : List ℕ) → size ≡ length c → size < 128 → head ≡ old ++ (t ∷ (size ∷ []))
    → new ≡ head ++ c → new ≡ old ++ encoded t c
element_is t size old head new c e h p q =
    q ∙ ap (λ (x : List ℕ). x ++ c) p
    ∙ append_assoc old (t ∷ (size ∷ [])) c
    ∙ ap (λ (n : ℕ). old ++ ((t ∷ (n ∷ [])) ++ c)) e
    ∙ ap (λ (x : List ℕ). old ++ x) (short_text t c (omega arith))

-- the same for a SEQUENCE of two texts, where the text was empty
pub pair_is :
    (size : ℕ) (old head one new s t text : List ℕ) → text ≡ encoded 48 (s ++ t) → 2 + size ≡ length text → length (s ++ t) ≤ 38
    → old ≡ [] → head ≡ old ++ (48 ∷ (size ∷ [])) → one ≡ head ++ s → new ≡ one ++ t → new ≡ text
pair_is size old head one new s t text e l h o p q r =
    let k = length_short 48 (s ++ t) (omega arith) in
    let f = ap length e in
    element_is 48 size old head new (s ++ t) (omega arith) (omega arith) p (r ∙ ap (λ (x : List ℕ). x ++ t) q ∙ append_assoc head s t)
    ∙ ap (λ (x : List ℕ). x ++ encoded 48 (s ++ t)) o ∙ sym e

pair_size :
    (x y : ℕ) (s t text : List ℕ) → text ≡ encoded 48 (s ++ t) → length (s ++ t) ≤ 38 → x ≡ length s → y ≡ length t → 2 + (x + y) ≡ length text
pair_size x y s t text e h p q =
    let k = length_short 48 (s ++ t) (omega arith) in
    let l = length-append s t in
    let f = ap length e in
    omega arith

-- ---- the room of a text

pub head_length : (t size : ℕ) (old head : List ℕ) → head ≡ old ++ (t ∷ (size ∷ [])) → length head ≡ length old + 2
head_length t size old head p = ap length p ∙ length-append old (t ∷ (size ∷ []))

pub more_length : (u : ℕ) (head half : List ℕ) → half ≡ head ++ (u ∷ []) → length half ≡ length head + 1
more_length u head half p = ap length p ∙ length-append head (u ∷ [])

pub bits_length : (i : ℕ) (half text s : List ℕ) → text ≡ half ++ take i s → length text ≤ length half + i
bits_length i half text s p =
    let e = ap length p in
    let l = length-append half (take i s) in
    let t = length-take i s in
    omega arith

pub part_room : (k : ℕ) (head octets : List ℕ) → length head + k ≤ 40 → length head + length (take k octets) ≤ 40
part_room k head octets h = let t = length-take k octets in omega arith

pub only_room : (old s : List ℕ) → old ≡ [] → length s ≤ 19 → length old + length s ≤ 40
only_room old s o h = let n = ap length o in omega arith

pub first_room : (t size : ℕ) (old head s : List ℕ) → old ≡ [] → head ≡ old ++ (t ∷ (size ∷ [])) → length s ≤ 19 → length head + length s ≤ 40
first_room t size old head s o p h = let n = ap length o in let m = head_length t size old head p in omega arith

pub last_room :
    (t size : ℕ) (old head one s u : List ℕ) → old ≡ [] → head ≡ old ++ (t ∷ (size ∷ [])) → one ≡ head ++ s → length s ≤ 19 → length u ≤ 19
    → length one + length u ≤ 40
last_room t size old head one s u o p q h i =
    let n = ap length o in
    let m = head_length t size old head p in
    let k : length one ≡ length head + length s = ap length q ∙ length-append head s in
    omega arith

-- ---- numbers as texts

pub integer_most : (n : ℕ) → length (integer_text n) ≤ 19
integer_most n = let e = integer_length n in let m = number_most n in omega arith

pub integer_size : (number size : ℕ) → size ≡ number_size number → 2 + size ≡ length (integer_text number)
integer_size number size e = let n = integer_length number in let m = length_octets_lem (number_size number) number in omega arith

pub integer_is :
    (n m size k : ℕ) (octets old head new : List ℕ) → octets ≡ to_be_bytes w64 m → m ≡ n → size ≡ number_size n → size ≤ 5 → size ≤ k
    → head ≡ old ++ (2 ∷ (size ∷ [])) → new ≡ head ++ take k (drop (8 - size) octets) → new ≡ old ++ integer_text n
unfolding integer_text
integer_is n m size k octets old head new e f s most room p q =
    let l = length_octets_lem size n in
    let o : octets ≡ to_be_bytes w64 n = e ∙ ap (to_be_bytes w64) f in
    let d : drop (8 - size) octets ≡ octets_of size n = ap (drop (8 - size)) o ∙ last_octets size n (omega arith) in
    let c : take k (drop (8 - size) octets) ≡ octets_of size n = ap (take k) d ∙ take_all k (octets_of size n) (omega arith) in
    element_is 2 size old head new (octets_of size n) (omega arith) (omega arith) p (q ∙ ap (λ (x : List ℕ). head ++ x) c)
    ∙ ap (λ (x : ℕ). old ++ encoded 2 (octets_of x n)) s

pub one_is : (a z : ℕ) → a ≡ z → integer_text a ≡ number_text a z
unfolding integer_text
one_is a z e = sym (text_one a z e)

pub one_size : (a z size : ℕ) → a ≡ z → size ≡ number_size a → 2 + size ≡ length (number_text a z)
one_size a z size e h = integer_size a size h ∙ ap length (one_is a z e)

pub more_size : (a z x y : ℕ) → (a ≡ z → ⊥) → x ≡ length (integer_text a) → y ≡ length (integer_text z) → 2 + (x + y) ≡ length (number_text a z)
more_size a z x y n p q =
    let m = pair_length a z in
    pair_size x y (integer_text a) (integer_text z) (number_text a z) (text_more a z n) (omega arith) p q

pub numbers_are :
    (a z size : ℕ) (old head one new : List ℕ) → (a ≡ z → ⊥) → 2 + size ≡ length (number_text a z) → old ≡ [] → head ≡ old ++ (48 ∷ (size ∷ []))
    → one ≡ head ++ integer_text a → new ≡ one ++ integer_text z → new ≡ number_text a z
numbers_are a z size old head one new n l o p q r =
    let m = pair_length a z in
    pair_is size old head one new (integer_text a) (integer_text z) (number_text a z) (text_more a z n) l (omega arith) o p q r

-- ---- addresses

pub string_size : (v : Family) (a n count : ℕ) → n ≤ width v → count ≡ octets_for n → 3 + count ≡ length (bit_text (width v) a n)
unfolding bit_text
string_size v a n count h e =
    let l = (has_octets v a n h).0 in
    let m = content_most v a n h in
    let k = length_short 3 (bits v a n) (omega arith) in
    omega arith

pub count_most : (v : Family) (n count : ℕ) → n ≤ width v → count ≡ octets_for n → count ≤ 16
count_most v n count h e = let m = most v in omega arith

-- one more octet of the bits
pub bits_more :
    (half s text after : List ℕ) (i x : ℕ) → text ≡ half ++ take i s → i < length s → x ≡ get_or s i 0 → after ≡ text ++ (x ∷ [])
    → after ≡ half ++ take (i + 1) s
bits_more half s text after i x e h f p =
    p ∙ ap (λ (t : List ℕ). t ++ (x ∷ [])) e
    ∙ append_assoc half (take i s) (x ∷ [])
    ∙ ap (λ (y : ℕ). half ++ (take i s ++ (y ∷ []))) f
    ∙ ap (λ (t : List ℕ). half ++ t) (sym (take_more s i 0 h))

-- all the bits, after how many of the last octet are none
pub bits_all : (w a n i : ℕ) (content : List ℕ) → content ≡ unused_for n ∷ take i (bits_of w a n) → length (bits_of w a n) ≤ i → encoded 3 content ≡ bit_text w a n
unfolding bit_text
bits_all w a n i content e h = ap (encoded 3) (e ∙ ap (λ (t : List ℕ). unused_for n ∷ t) (take_all i (bits_of w a n) h))

pub string_is :
    (v : Family) (a n count u i : ℕ) (old head half new : List ℕ) → n ≤ width v → count ≡ octets_for n → u ≡ unused_for n → count ≤ i
    → head ≡ old ++ (3 ∷ ((1 + count) ∷ [])) → half ≡ head ++ (u ∷ []) → new ≡ half ++ take i (bits_of (width v) a n)
    → new ≡ old ++ bit_text (width v) a n
unfolding bit_text
string_is v a n count u i old head half new h e f g p q r =
    let l = (has_octets v a n h).0 in
    let m = count_most v n count h e in
    let o = bits_of (width v) a n in
    let t : take i o ≡ o = take_all i o (omega arith) in
    let c : new ≡ head ++ (u ∷ o) = r ∙ ap (λ (x : List ℕ). half ++ x) t ∙ ap (λ (x : List ℕ). x ++ o) q ∙ append_assoc head (u ∷ []) o in
    let b : new ≡ head ++ bits v a n = c ∙ ap (λ (y : ℕ). head ++ (y ∷ o)) f in
    element_is 3 (1 + count) old head new (bits v a n) (omega arith) (omega arith) p b

pub prefix_is : (v : Family) (a z n : ℕ) → one_prefix (width v) a z ≡ true → n ≡ prefix_count (width v) a z → bit_text (width v) a n ≡ address_text (width v) a z
unfolding bit_text
prefix_is v a z n e i = sym (text_prefix v a z e ∙ ap (λ (x : ℕ). encoded 3 (bits v a x)) (sym i))

pub prefix_size :
    (v : Family) (a z n count : ℕ) → one_prefix (width v) a z ≡ true → n ≡ prefix_count (width v) a z → n ≤ width v → count ≡ octets_for n
    → 2 + (1 + count) ≡ length (address_text (width v) a z)
prefix_size v a z n count e i h f = let s = string_size v a n count h f in let t = ap length (prefix_is v a z n e i) in omega arith

-- the halves of a range, by how many bits they have
range_text : (v : Family) (a z n m : ℕ) → one_prefix (width v) a z ≡ false → n ≡ low_count (width v) a → m ≡ high_count (width v) z
    → address_text (width v) a z ≡ encoded 48 (bit_text (width v) a n ++ bit_text (width v) z m)
unfolding halves_text
range_text v a z n m e i j =
    text_range v a z e
    ∙ ap (λ (x : ℕ). encoded 48 (bit_text (width v) a x ++ bit_text (width v) z (high_count (width v) z))) (sym i)
    ∙ ap (λ (x : ℕ). encoded 48 (bit_text (width v) a n ++ bit_text (width v) z x)) (sym j)

range_short : (v : Family) (a z n m : ℕ) → n ≤ width v → m ≤ width v → length (bit_text (width v) a n ++ bit_text (width v) z m) ≤ 38
range_short v a z n m h i =
    let x = bit_length v a n h in
    let y = bit_length v z m i in
    let l = length-append (bit_text (width v) a n) (bit_text (width v) z m) in
    omega arith

pub range_size :
    (v : Family) (a z n m x y : ℕ) → one_prefix (width v) a z ≡ false → n ≡ low_count (width v) a → m ≡ high_count (width v) z
    → n ≤ width v → m ≤ width v → x ≡ length (bit_text (width v) a n) → y ≡ length (bit_text (width v) z m) → 2 + (x + y) ≡ length (address_text (width v) a z)
range_size v a z n m x y e i j h k p q =
    pair_size x y (bit_text (width v) a n) (bit_text (width v) z m) (address_text (width v) a z)
    (range_text v a z n m e i j) (range_short v a z n m h k) p q

pub range_is :
    (v : Family) (a z n m size : ℕ) (old head one new : List ℕ) → one_prefix (width v) a z ≡ false → n ≡ low_count (width v) a
    → m ≡ high_count (width v) z → n ≤ width v → m ≤ width v → 2 + size ≡ length (address_text (width v) a z) → old ≡ [] → head ≡ old ++ (48 ∷ (size ∷ []))
    → one ≡ head ++ bit_text (width v) a n → new ≡ one ++ bit_text (width v) z m → new ≡ address_text (width v) a z
range_is v a z n m size old head one new e i j h k l o p q r =
    pair_is size old head one new (bit_text (width v) a n) (bit_text (width v) z m) (address_text (width v) a z)
    (range_text v a z n m e i j) l (range_short v a z n m h k) o p q r
