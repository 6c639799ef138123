-- A word is read as a point exactly where it is the point's text. Assumes nothing.
use Rattle.std.specs.Prelude.{◌≡◌, ℕ, ◌+◌, ◌*◌, ◌/◌, ◌%◌, ◌^◌, ◌<◌, ◌≤◌, Bool, true, false, cond, not, ◌&&◌, ◌⊎◌, List, [], ◌∷◌, ◌++◌, map, length, Some, None, decimal, Option, ◌==◌, nat_eq, refl}
use Rattle.std.proofs.Common.{sym, ap, subst, ◌∙◌, inl, inr, arith}
use Rattle.std.specs.Char.{to_ascii_lowercase}
use Rattle.std.proofs.lemmas.Fmt.{decimal_by_steps}
use Rattle.std.proofs.lemmas.List.{length-map}
use Rattle.std.proofs.lemmas.Bool.{ne_eqb}
use Rattle.std.proofs.lemmas.Bool.Decides.{nat_tests}
use Rattle.hex_text.specs.Digits.{nibble_of, paired, octet_of, digit_of, hex_text}
use Rattle.hex_text.proofs.Texts.{octet_back, octet_inv}
use Rattle.numeral.specs.Numbers.{number_of}
use Rattle.numeral.proofs.Reading.{of_inv, of_decimal}
use Rattle.pieces.specs.Marks.{pieces_of, joined, lacking, and_then, at_end}
use Rattle.pieces.proofs.Splits.{joined_pieces, pieces_joined}
use Rattle.points.specs.declared.V4.{V4}
use Rattle.points.specs.declared.Asn.{Asn}
use Rattle.points.specs.Ranks.{v4_fits, asn_fits}
use Rattle.point_words.specs.Texts.{v4_parts, v4_text, v4_from, v4_of, asn_text, asn_of, group_text, group_of}
use Rattle.point_words.proofs.Parts.{Parts, none_some, then_inv, end_inv, four_inv, four_read, lacking_parts, lacking_push}

-- the digits of a number hold no character below them
digit_lacks : (m n : ℕ) → m < 48 → lacking m ((48 + n) ∷ []) ≡ true
digit_lacks m n l = ap (λ (b : Bool). not b && true) (ne_eqb (48 + n) m (λ e. omega arith))

pub decimal_lacks : (m n : ℕ) → m < 48 → n < 2 ^ 64 → lacking m (decimal n) ≡ true
decimal_lacks m n l =
    decimal_by_steps (λ _ ds. lacking m ds ≡ true) (λ k _. digit_lacks m k l)
    (λ k ds _ h. lacking_push m ds (48 + k % 10) (ne_eqb (48 + k % 10) m (λ e. omega arith)) h) n

-- an AS number
pub asn_read : (x : Asn) → asn_fits x → asn_of (asn_text x) ≡ Some x
asn_read x h = ap (λ (o : Option ℕ). and_then o (λ n. Some (record { number = n }))) (of_decimal 4294967295 x.number (omega arith) (omega arith))

pub asn_text_lem : (w : List ℕ) (x : Asn) → asn_of w ≡ Some x → asn_fits x × (w ≡ asn_text x) × (lacking 44 w ≡ true) × (lacking 45 w ≡ true)
asn_text_lem w x h =
    let t = then_inv (number_of 4294967295 w) (λ n. Some (record { number = n })) x h in
    let e : t.0 ≡ x.number = cc in
    let p : (w ≡ decimal t.0) × (t.0 ≤ 4294967295) = of_inv 4294967295 w t.0 (omega arith) t.1 in
    let q : w ≡ decimal x.number = p.0 ∙ ap decimal e in
    let f : x.number < 2 ^ 32 = omega (arith, p.1) in
    (f, q, ap (lacking 44) q ∙ decimal_lacks 44 x.number (omega arith) (omega arith), ap (lacking 45) q ∙ decimal_lacks 45 x.number (omega arith) (omega arith))

-- the octets of an IPv4 address, put together and taken apart
parts_of : (a b c d : ℕ) → a ≤ 255 → b ≤ 255 → c ≤ 255 → d ≤ 255 → v4_parts (a * 16777216 + b * 65536 + c * 256 + d) ≡ decimal a ∷ (decimal b ∷ (decimal c ∷ (decimal d ∷ [])))
parts_of a b c d p q r s =
    let n : ℕ = a * 16777216 + b * 65536 + c * 256 + d in
    let i : n / 16777216 ≡ a = omega arith in
    let j : n / 65536 % 256 ≡ b = omega arith in
    let k : n / 256 % 256 ≡ c = omega arith in
    let l : n % 256 ≡ d = omega arith in
    ap (λ (x : ℕ). decimal x ∷ (decimal (n / 65536 % 256) ∷ (decimal (n / 256 % 256) ∷ (decimal (n % 256) ∷ [])))) i
    ∙ ap (λ (x : ℕ). decimal a ∷ (decimal x ∷ (decimal (n / 256 % 256) ∷ (decimal (n % 256) ∷ [])))) j
    ∙ ap (λ (x : ℕ). decimal a ∷ (decimal b ∷ (decimal x ∷ (decimal (n % 256) ∷ [])))) k
    ∙ ap (λ (x : ℕ). decimal a ∷ (decimal b ∷ (decimal c ∷ (decimal x ∷ [])))) l

whole_v4 : (n : ℕ) → n < 2 ^ 32 → n / 16777216 * 16777216 + n / 65536 % 256 * 65536 + n / 256 % 256 * 256 + n % 256 ≡ n
whole_v4 n l = omega arith

-- a text of four parts lacks a character that they lack
four_lack : (m mark : ℕ) (a b c d : List ℕ) → (mark == m) ≡ false → lacking m a ≡ true → lacking m b ≡ true → lacking m c ≡ true → lacking m d ≡ true
    → lacking m (joined mark (a ∷ (b ∷ (c ∷ (d ∷ []))))) ≡ true
four_lack m mark a b c d e p q r s =
    lacking_parts m mark a (b ++ (mark ∷ (c ++ (mark ∷ d)))) e p (lacking_parts m mark b (c ++ (mark ∷ d)) e q (lacking_parts m mark c d e r s))

-- an IPv4 address
pub v4_read : (x : V4) → v4_fits x → v4_of (v4_text x) ≡ Some x
v4_read x h =
    let n : ℕ = x.word in
    let a : ℕ = n / 16777216 in
    let b : ℕ = n / 65536 % 256 in
    let c : ℕ = n / 256 % 256 in
    let d : ℕ = n % 256 in
    ap v4_from (pieces_joined 46 (decimal a) (decimal b ∷ (decimal c ∷ (decimal d ∷ []))) (decimal_lacks 46 a (omega arith) (omega arith), (decimal_lacks 46 b (omega arith) (omega arith), (decimal_lacks 46 c (omega arith) (omega arith), (decimal_lacks 46 d (omega arith) (omega arith), tt)))))
    ∙ four_read (number_of 255) (decimal a) (decimal b) (decimal c) (decimal d) [] a b c d (λ a b c d rest. at_end rest (record { word = a * 16777216 + b * 65536 + c * 256 + d }))
    (of_decimal 255 a (omega arith) (omega arith)) (of_decimal 255 b (omega arith) (omega arith)) (of_decimal 255 c (omega arith) (omega arith)) (of_decimal 255 d (omega arith) (omega arith))
    ∙ ap (λ (k : ℕ). Some (record { word = k })) (whole_v4 n h)

pub v4_text_lem : (w : List ℕ) (x : V4) → v4_of w ≡ Some x → v4_fits x × (w ≡ v4_text x) × (lacking 44 w ≡ true) × (lacking 45 w ≡ true)
v4_text_lem w x h =
    let f = four_inv (number_of 255) (pieces_of 46 w) (λ a b c d rest. at_end rest (record { word = a * 16777216 + b * 65536 + c * 256 + d })) x h in
    let a : ℕ = f.a in
    let b : ℕ = f.b in
    let c : ℕ = f.c in
    let d : ℕ = f.d in
    let y : V4 = record { word = a * 16777216 + b * 65536 + c * 256 + d } in
    let done : (f.rest ≡ []) × (y ≡ x) = end_inv f.rest y x f.after in
    let i : (f.word_a ≡ decimal a) × (a ≤ 255) = of_inv 255 f.word_a a (omega arith) f.read_a in
    let j : (f.word_b ≡ decimal b) × (b ≤ 255) = of_inv 255 f.word_b b (omega arith) f.read_b in
    let k : (f.word_c ≡ decimal c) × (c ≤ 255) = of_inv 255 f.word_c c (omega arith) f.read_c in
    let l : (f.word_d ≡ decimal d) × (d ≤ 255) = of_inv 255 f.word_d d (omega arith) f.read_d in
    let spelt : f.word_a ∷ (f.word_b ∷ (f.word_c ∷ (f.word_d ∷ f.rest))) ≡ decimal a ∷ (decimal b ∷ (decimal c ∷ (decimal d ∷ []))) =
    ap (λ (v : List ℕ). v ∷ (f.word_b ∷ (f.word_c ∷ (f.word_d ∷ f.rest)))) i.0
    ∙ ap (λ (v : List ℕ). decimal a ∷ (v ∷ (f.word_c ∷ (f.word_d ∷ f.rest)))) j.0
    ∙ ap (λ (v : List ℕ). decimal a ∷ (decimal b ∷ (v ∷ (f.word_d ∷ f.rest)))) k.0
    ∙ ap (λ (v : List ℕ). decimal a ∷ (decimal b ∷ (decimal c ∷ (v ∷ f.rest)))) l.0
    ∙ ap (λ (v : Parts). decimal a ∷ (decimal b ∷ (decimal c ∷ (decimal d ∷ v)))) done.0 in
    let e : w ≡ joined 46 (decimal a ∷ (decimal b ∷ (decimal c ∷ (decimal d ∷ [])))) = sym (joined_pieces 46 w) ∙ ap (joined 46) (f.whole ∙ spelt) in
    let t : w ≡ v4_text x = e ∙ ap (joined 46) (sym (parts_of a b c d i.1 j.1 k.1 l.1)) ∙ ap v4_text done.1 in
    let fits : v4_fits y = omega (arith, i.1, j.1, k.1, l.1) in
    let sa : a < 2 ^ 64 = omega (arith, i.1) in
    let sb : b < 2 ^ 64 = omega (arith, j.1) in
    let sc : c < 2 ^ 64 = omega (arith, k.1) in
    let sd : d < 2 ^ 64 = omega (arith, l.1) in
    let lacks : (m : ℕ) → m < 46 → lacking m w ≡ true =
    λ m low.
    let s : m < 48 = omega arith in
    ap (lacking m) e ∙ four_lack m 46 (decimal a) (decimal b) (decimal c) (decimal d) (ne_eqb 46 m (λ q. omega arith)) (decimal_lacks m a s sa) (decimal_lacks m b s sb) (decimal_lacks m c s sc) (decimal_lacks m d s sd) in
    (subst v4_fits done.1 fits, t, lacks 44 (omega arith), lacks 45 (omega arith))

-- case makes no difference to the worth of a digit
nibble_lower : (c : ℕ) → nibble_of (to_ascii_lowercase c) ≡ nibble_of c
nibble_lower c = grind (arith, nat_tests)

octet_lower : (a b : ℕ) → octet_of (to_ascii_lowercase a) (to_ascii_lowercase b) ≡ octet_of a b
octet_lower a b = ap (λ (o : Option ℕ). paired o (nibble_of (to_ascii_lowercase b))) (nibble_lower a) ∙ ap (paired (nibble_of a)) (nibble_lower b)

-- a group by its four digits
abbrev grouped : Option ℕ → Option ℕ → Option ℕ
grouped high low = and_then high (λ h. and_then low (λ l. Some (h * 256 + l)))

pub group_blind : (w : List ℕ) → group_of (map to_ascii_lowercase w) ≡ group_of w
group_blind [] = refl
group_blind (a ∷ []) = refl
group_blind (a ∷ (b ∷ [])) = refl
group_blind (a ∷ (b ∷ (c ∷ []))) = refl
group_blind (a ∷ (b ∷ (c ∷ (d ∷ [])))) =
    ap (λ (o : Option ℕ). grouped o (octet_of (to_ascii_lowercase c) (to_ascii_lowercase d))) (octet_lower a b) ∙ ap (grouped (octet_of a b)) (octet_lower c d)
group_blind (a ∷ (b ∷ (c ∷ (d ∷ (e ∷ w))))) =
    let n : length (map to_ascii_lowercase w) ≡ length w = length-map w to_ascii_lowercase in
    let far : (s : List ℕ) → (length (a ∷ (b ∷ (c ∷ (d ∷ (e ∷ s))))) == 4) ≡ false = λ s. ne_eqb (length (a ∷ (b ∷ (c ∷ (d ∷ (e ∷ s)))))) 4 (λ q. omega arith) in
    ap (λ (t : Bool). cond t (grouped (octet_of (to_ascii_lowercase a) (to_ascii_lowercase b)) (octet_of (to_ascii_lowercase c) (to_ascii_lowercase d))) None) (far (map to_ascii_lowercase w))
    ∙ sym (ap (λ (t : Bool). cond t (grouped (octet_of a b) (octet_of c d)) None) (far w))

grouped_inv : (high low : Option ℕ) (g : ℕ) → grouped high low ≡ Some g → (h : ℕ) × (l : ℕ) × (high ≡ Some h) × (low ≡ Some l) × (h * 256 + l ≡ g)
grouped_inv None low g e = none_some g e
grouped_inv (Some h) None g e = none_some g e
grouped_inv (Some h) (Some l) g e = (h, l, refl, refl, cc)

abbrev Grouped : List ℕ → ℕ → Type 0
Grouped w g = (map to_ascii_lowercase w ≡ group_text g) × (g < 65536)

group_four : (a b c d g : ℕ) → grouped (octet_of a b) (octet_of c d) ≡ Some g → Grouped (a ∷ (b ∷ (c ∷ (d ∷ [])))) g
unfolding group_text
group_four a b c d g e =
    let p = grouped_inv (octet_of a b) (octet_of c d) g e in
    let h : ℕ = p.0 in
    let l : ℕ = p.1 in
    let u : (h < 256) × (digit_of (h / 16) ≡ to_ascii_lowercase a) × (digit_of (h % 16) ≡ to_ascii_lowercase b) = octet_inv a b h p.2 in
    let v : (l < 256) × (digit_of (l / 16) ≡ to_ascii_lowercase c) × (digit_of (l % 16) ≡ to_ascii_lowercase d) = octet_inv c d l p.3 in
    let s : h * 256 + l ≡ g = p.4 in
    let q : g / 256 ≡ h = omega (arith, v.0) in
    let r : g % 256 ≡ l = omega (arith, v.0) in
    let t : hex_text (h ∷ (l ∷ [])) ≡ to_ascii_lowercase a ∷ (to_ascii_lowercase b ∷ (to_ascii_lowercase c ∷ (to_ascii_lowercase d ∷ []))) =
    ap (λ (n : ℕ). n ∷ (digit_of (h % 16) ∷ (digit_of (l / 16) ∷ (digit_of (l % 16) ∷ [])))) u.1
    ∙ ap (λ (n : ℕ). to_ascii_lowercase a ∷ (n ∷ (digit_of (l / 16) ∷ (digit_of (l % 16) ∷ [])))) u.2
    ∙ ap (λ (n : ℕ). to_ascii_lowercase a ∷ (to_ascii_lowercase b ∷ (n ∷ (digit_of (l % 16) ∷ [])))) v.1
    ∙ ap (λ (n : ℕ). to_ascii_lowercase a ∷ (to_ascii_lowercase b ∷ (to_ascii_lowercase c ∷ (n ∷ [])))) v.2 in
    (sym t ∙ sym (ap (λ (n : ℕ). hex_text (n ∷ (g % 256 ∷ []))) q ∙ ap (λ (n : ℕ). hex_text (h ∷ (n ∷ []))) r), omega (arith, u.0, v.0))

pub group_inv : (w : List ℕ) (g : ℕ) → group_of w ≡ Some g → Grouped w g
group_inv [] g e = none_some g e
group_inv (a ∷ []) g e = none_some g e
group_inv (a ∷ (b ∷ [])) g e = none_some g e
group_inv (a ∷ (b ∷ (c ∷ []))) g e = none_some g e
group_inv (a ∷ (b ∷ (c ∷ (d ∷ [])))) g e = group_four a b c d g e
group_inv (a ∷ (b ∷ (c ∷ (d ∷ (f ∷ w))))) g e =
    let s : List ℕ = a ∷ (b ∷ (c ∷ (d ∷ (f ∷ w)))) in
    let far : nat_eq (length s) 4 ≡ false = ne_eqb (length s) 4 (λ q. omega arith) in
    none_some g (sym (ap (λ (t : Bool). cond t (grouped (octet_of a b) (octet_of c d)) None) far) ∙ e)

pub group_read : (g : ℕ) → g < 65536 → group_of (group_text g) ≡ Some g
unfolding group_text
group_read g l =
    let h : ℕ = g / 256 in
    let k : ℕ = g % 256 in
    let e : h * 256 + k ≡ g = omega arith in
    ap (λ (o : Option ℕ). grouped o (octet_of (digit_of (k / 16)) (digit_of (k % 16)))) (octet_back h (omega arith))
    ∙ ap (grouped (Some h)) (octet_back k (omega arith)) ∙ ap Some e

-- the digits of a group are no marks
digit_mark : (m n : ℕ) → (m < 48) ⊎ (m ≡ 58) → (digit_of n == m) ≡ false
digit_mark m n (inl l) = grind (arith, nat_tests)
digit_mark m n (inr e) = grind (arith, nat_tests)

pub group_lacks : (m g : ℕ) → (m < 48) ⊎ (m ≡ 58) → lacking m (group_text g) ≡ true
unfolding group_text
group_lacks m g s =
    let a : ℕ = digit_of (g / 256 / 16) in
    let b : ℕ = digit_of (g / 256 % 16) in
    let c : ℕ = digit_of (g % 256 / 16) in
    let d : ℕ = digit_of (g % 256 % 16) in
    ap (λ (t : Bool). not t && lacking m (b ∷ (c ∷ (d ∷ [])))) (digit_mark m (g / 256 / 16) s)
    ∙ ap (λ (t : Bool). not t && lacking m (c ∷ (d ∷ []))) (digit_mark m (g / 256 % 16) s)
    ∙ ap (λ (t : Bool). not t && lacking m (d ∷ [])) (digit_mark m (g % 256 / 16) s)
    ∙ ap (λ (t : Bool). not t && true) (digit_mark m (g % 256 % 16) s)
