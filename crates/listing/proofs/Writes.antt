-- Texts that are written one after another. Assumes nothing.
use Rattle.std.proofs.Common.{◌≡◌, ℕ, suc, ◌+◌, ◌/◌, ◌%◌, ◌^◌, ◌<◌, ◌≤◌, List, [], ◌∷◌, ◌++◌, length, get_or, take, set, codes, decimal, sym, refl, ap, ◌∙◌, subst, add-one, arith}
use lib.Seq.{sets}
use Rattle.std.proofs.lemmas.List.{length-append, set_past, take_more}
use Rattle.std.proofs.lemmas.Fmt.{decimal_digit, decimal_step, length-decimal-le}
use Rattle.listing.specs.Texts.{octet_at, octets_text, ipv4_text, hex_digit, group_at, group_text, groups_text, ipv6_text, address_text, line_text, head_text}
use Rattle.payload.specs.declared.Payload.{Payload}
use Rattle.listing.specs.Writing.{Written}

pub sets_append : (s t a : List ℕ) (at : ℕ) → sets (sets a at s) (at + length s) t ≡ sets a at (s ++ t)
sets_append [] t a at = let e : at + 0 ≡ at = omega arith in ap (λ (n : ℕ). sets a n t) e
sets_append (x ∷ s) t a at =
    let e : at + suc (length s) ≡ suc at + length s = omega arith in
    ap (λ (n : ℕ). sets (sets (set a at x) (suc at) s) n t) e ∙ sets_append s t (set a at x) (suc at)

pub written_none : (a : List ℕ) (at : ℕ) → Written [] a at a at
written_none a at = record { octets = refl; place = omega arith }

-- one text and then another
pub written_then : {s t a b c : List ℕ} {at m n : ℕ} → Written s a at b m → Written t b m c n → Written (s ++ t) a at c n
written_then {s} {t} {a} {b} {c} {at} {m} {n} v w =
    let size : length (s ++ t) ≡ length s + length t = length-append s t in
    let p : m ≡ at + length s = v.place in
    let q : n ≡ m + length t = w.place in
    record {
      octets = w.octets ∙ ap (λ (k : ℕ). sets b k t) p ∙ ap (λ (l : List ℕ). sets l (at + length s) t) v.octets ∙ sets_append s t a at;
      place = omega arith;
    }

pub written_at : {s t a b : List ℕ} {at n : ℕ} → s ≡ t → Written s a at b n → Written t a at b n
written_at {s} {t} {a} {b} {at} {n} e w = let P : List ℕ → Type 0 = λ l. Written l a at b n in subst P e w

pub written_from : {s a b c : List ℕ} {at m n : ℕ} → b ≡ a → m ≡ at → Written s b m c n → Written s a at c n
written_from {s} {a} {b} {c} {at} {m} {n} e f w =
    let P : List ℕ → Type 0 = λ l. Written s l m c n in
    let Q : ℕ → Type 0 = λ k. Written s a k c n in
    subst Q f (subst P e w)

-- a writer's area, once the writer is done with
pub written_to : {s a b c : List ℕ} {at n : ℕ} → Written s a at b n → c ≡ b → Written s a at c n
written_to {s} {a} {b} {c} {at} {n} w e = let P : List ℕ → Type 0 = λ l. Written s a at l n in subst P (sym e) w

-- one octet, inside the area and past it
pub put_inside : (o at : ℕ) (a b : List ℕ) → b ≡ set a at o → Written (o ∷ []) a at b (at + 1)
put_inside o at a b e = record { octets = e; place = refl }

pub put_past : (o at : ℕ) (a b : List ℕ) → length a ≤ at → b ≡ a → Written (o ∷ []) a at b (at + 1)
put_past o at a b l e = record { octets = e ∙ sym (set_past a at o l); place = refl }

-- one octet more of a word
pub word_more : (word a b c : List ℕ) (at i m n : ℕ) → i < length word → Written (take i word) a at b m → Written (get_or word i 0 ∷ []) b m c n → Written (take (i + 1) word) a at c n
word_more word a b c at i m n l v w = written_at (sym (take_more word i 0 l)) (written_then v w)

-- a number by its front and its last digit
pub number_short : (n : ℕ) (a b : List ℕ) (at r : ℕ) → n < 10 → Written ((48 + n % 10) ∷ []) a at b r → Written (decimal n) a at b r
number_short n a b at r l w =
    let e : 48 + n % 10 ≡ 48 + n = omega arith in
    written_at (ap (λ (d : ℕ). d ∷ []) e ∙ sym (decimal_digit n l)) w

pub number_long : (n : ℕ) (a b c : List ℕ) (at m r : ℕ) → 10 ≤ n → n < 2 ^ 64 → Written (decimal (n / 10)) a at b m → Written ((48 + n % 10) ∷ []) b m c r → Written (decimal n) a at c r
number_long n a b c at m r l f v w = written_at (sym (decimal_step n l f)) (written_then v w)

pub number_bound : (n : ℕ) (a b : List ℕ) (at r : ℕ) → n < 2 ^ 64 → Written (decimal n) a at b r → r ≤ at + 20
number_bound n a b at r f w =
    let l : length (decimal n) ≤ 20 = length-decimal-le 20 n (omega arith) (omega arith) f in
    let p : r ≡ at + length (decimal n) = w.place in
    omega arith

-- an address by its parts
pub octets_none : (address : ℕ) (a : List ℕ) (at : ℕ) → Written (octets_text 0 address) a at a at
unfolding octets_text
octets_none address a at = written_none a at

pub octets_more : (address k o : ℕ) (a b c d : List ℕ) (at l m n : ℕ) → o ≡ octet_at k address → Written (octets_text k address) a at b l → Written (decimal o) b l c m → Written (46 ∷ []) c m d n → Written (octets_text (k + 1) address) a at d n
unfolding octets_text
octets_more address k o a b c d at l m n e u v w =
    rw add-one (written_then u (written_then (written_at (ap decimal e) v) w))

pub octets_all : (address k o : ℕ) (a b c : List ℕ) (at l m : ℕ) → k ≡ 3 → o ≡ octet_at 3 address → Written (octets_text k address) a at b l → Written (decimal o) b l c m → Written (ipv4_text address) a at c m
unfolding ipv4_text
octets_all address k o a b c at l m f e u v = written_then (written_at (ap (λ (n : ℕ). octets_text n address) f) u) (written_at (ap decimal e) v)

pub group_all : (g d₀ d₁ d₂ d₃ : ℕ) (a b c d e : List ℕ) (at k l m n : ℕ) → d₀ ≡ hex_digit (g / 4096) → d₁ ≡ hex_digit (g / 256 % 16) → d₂ ≡ hex_digit (g / 16 % 16) → d₃ ≡ hex_digit (g % 16)
    → Written (d₀ ∷ []) a at b k → Written (d₁ ∷ []) b k c l → Written (d₂ ∷ []) c l d m → Written (d₃ ∷ []) d m e n → Written (group_text g) a at e n
unfolding group_text
group_all g d₀ d₁ d₂ d₃ a b c d e at k l m n p q r s t u v w =
    written_then (written_at (ap (λ (x : ℕ). x ∷ []) p) t)
    (written_then (written_at (ap (λ (x : ℕ). x ∷ []) q) u) (written_then (written_at (ap (λ (x : ℕ). x ∷ []) r) v) (written_at (ap (λ (x : ℕ). x ∷ []) s) w)))

pub groups_none : (address : ℕ) (a : List ℕ) (at : ℕ) → Written (groups_text 0 address) a at a at
unfolding groups_text
groups_none address a at = written_none a at

pub groups_more : (address k g : ℕ) (a b c d : List ℕ) (at l m n : ℕ) → g ≡ group_at k address → Written (groups_text k address) a at b l → Written (group_text g) b l c m → Written (58 ∷ []) c m d n → Written (groups_text (k + 1) address) a at d n
unfolding groups_text
groups_more address k g a b c d at l m n e u v w =
    rw add-one (written_then u (written_then (written_at (ap group_text e) v) w))

pub groups_all : (address k g : ℕ) (a b c : List ℕ) (at l m : ℕ) → k ≡ 7 → g ≡ group_at 7 address → Written (groups_text k address) a at b l → Written (group_text g) b l c m → Written (ipv6_text address) a at c m
unfolding ipv6_text
groups_all address k g a b c at l m f e u v = written_then (written_at (ap (λ (n : ℕ). groups_text n address) f) u) (written_at (ap group_text e) v)

-- the lines by their parts
pub head_all : (count : ℕ) {a b c d : List ℕ} {k l m : ℕ} → Written (codes "payloads=") a 0 b k → Written (decimal count) b k c l → Written (codes "\n") c l d m → Written (head_text count) a 0 d m
unfolding head_text
head_all count u v w = written_then u (written_then v w)

pub line_all : (p : Payload) {a b c d e f g h i j : List ℕ} {k l m n o q r s t : ℕ}
    → Written (codes "asn=") a 0 b k → Written (decimal p.asn) b k c l → Written (codes " prefix=") c l d m → Written (address_text p.prefix.family p.prefix.address) d m e n → Written (codes "/") e n f o
    → Written (decimal p.prefix.length) f o g q → Written (codes " max=") g q h r → Written (decimal p.max) h r i s → Written (codes "\n") i s j t → Written (line_text p) a 0 j t
unfolding line_text
line_all p w₀ w₁ w₂ w₃ w₄ w₅ w₆ w₇ w₈ =
    written_then w₀ (written_then w₁ (written_then w₂ (written_then w₃ (written_then w₄ (written_then w₅ (written_then w₆ (written_then w₇ w₈)))))))
