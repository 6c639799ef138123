-- A header reads as it was written, and only so. Assumes nothing.
use Rattle.std.proofs.Common.{◌≡◌, ℕ, suc, ◌+◌, ◌*◌, ◌/◌, ◌%◌, ◌<◌, ◌≤◌, List, [], ◌∷◌, ◌++◌, length, get_or, take, Ok, sym, refl, ap, ◌∙◌, subst, inl, inr, arith}
use Rattle.std.proofs.lemmas.Bool.Decides.{nat_tests, leb_tells, eqb_tells}
use Rattle.element.specs.declared.Header.{Header}
use Rattle.element.specs.Lengths.{longest, length_octets, header}
use Rattle.element.specs.Reading.{measured}

short_head : (t n : ℕ) (r : List ℕ) → n < 128 → n ≤ length r → measured (t ∷ (n ∷ r)) ≡ Ok record { octets = 2; content = n }
short_head t n r h k = grind (arith, nat_tests)

mid_head : (t n : ℕ) (r : List ℕ) → 128 ≤ n → n < 256 → n ≤ length r → measured (t ∷ (129 ∷ (n ∷ r))) ≡ Ok record { octets = 3; content = n }
mid_head t n r h l k = grind (arith, nat_tests)

long-head :
    (t a b : ℕ) (r : List ℕ) → 0 < a → a * 256 + b ≤ length r
    → measured (t ∷ (130 ∷ (a ∷ (b ∷ r)))) ≡ Ok record { octets = 4; content = a * 256 + b }
long-head t a b r h k = grind (arith, nat_tests)

pub lengths_short : (n : ℕ) → n < 128 → length_octets n ≡ n ∷ []
lengths_short n h = grind (arith, nat_tests)

pub lengths_mid : (n : ℕ) → 128 ≤ n → n < 256 → length_octets n ≡ 129 ∷ (n ∷ [])
lengths_mid n h k = grind (arith, nat_tests)

pub lengths_long : (n : ℕ) → 256 ≤ n → length_octets n ≡ 130 ∷ (n / 256 ∷ (n % 256 ∷ []))
lengths_long n h = grind (arith, nat_tests)

split : (n : ℕ) → n / 256 * 256 + n % 256 ≡ n
split n = omega arith

-- what a header of these length octets reads as
abbrev Reads : ℕ → ℕ → List ℕ → List ℕ → Type 0
Reads t n r l = measured ((t ∷ l) ++ r) ≡ Ok record { octets = length (t ∷ l); content = n }

reads_long : (t n : ℕ) (r : List ℕ) → 256 ≤ n → n ≤ length r → Reads t n r (130 ∷ (n / 256 ∷ (n % 256 ∷ [])))
reads_long t n r h k =
    let e : n / 256 * 256 + n % 256 ≡ n = split n in
    subst (λ (m : ℕ). measured (t ∷ (130 ∷ (n / 256 ∷ (n % 256 ∷ r)))) ≡ Ok record { octets = 4; content = m }) e
    (long-head t (n / 256) (n % 256) r (omega arith) (omega arith))

-- what is written as a header reads as one
pub measured-header :
    (t n : ℕ) (r : List ℕ) → n ≤ longest → n ≤ length r → measured (header t n ++ r) ≡ Ok record { octets = length (header t n); content = n }
measured-header t n r small fits =
    elim (leb_tells (suc n) 128) [
      | inl p ↦ subst (Reads t n r) (sym (lengths_short n p.1)) (short_head t n r p.1 fits)
      | inr p ↦ elim (leb_tells (suc n) 256) [
        | inl q ↦ subst (Reads t n r) (sym (lengths_mid n (omega (arith, p.1)) q.1)) (mid_head t n r (omega (arith, p.1)) q.1 fits)
        | inr q ↦ subst (Reads t n r) (sym (lengths_long n (omega (arith, q.1)))) (reads_long t n r (omega (arith, q.1)) fits)
      ]
    ]

-- the three ways in which octets begin with a header
data Shape (s : List ℕ) (h : Header) : Type 0 where
  short : 2 ≤ length s → get_or s 1 0 < 128 → h.octets ≡ 2 → h.content ≡ get_or s 1 0 → Shape s h
  mid : 3 ≤ length s → get_or s 1 0 ≡ 129 → 128 ≤ get_or s 2 0 → h.octets ≡ 3 → h.content ≡ get_or s 2 0 → Shape s h
  long : 4 ≤ length s → get_or s 1 0 ≡ 130 → 0 < get_or s 2 0 → h.octets ≡ 4 → h.content ≡ get_or s 2 0 * 256 + get_or s 3 0 → Shape s h

shape : (s : List ℕ) (h : Header) → measured s ≡ Ok h → Shape s h
shape s h e =
    elim (leb_tells (suc (get_or s 1 0)) 128) [
      | inl p ↦ let low = p.1 in short (grind (arith, nat_tests)) low (grind (arith, nat_tests)) (grind (arith, nat_tests))
      | inr p ↦ let high = p.1 in elim (eqb_tells (get_or s 1 0) 129) [
        | inl q ↦ let is = q.1 in mid (grind (arith, nat_tests)) is (grind (arith, nat_tests)) (grind (arith, nat_tests)) (grind (arith, nat_tests))
        | inr q ↦ let other = q.1 in long (grind (arith, nat_tests)) (grind (arith, nat_tests)) (grind (arith, nat_tests)) (grind (arith, nat_tests)) (grind (arith, nat_tests))
      ]
    ]

pub measured_fits : (s : List ℕ) (h : Header) → measured s ≡ Ok h → h.octets + h.content ≤ length s
measured_fits s h e = grind (arith, nat_tests)

front2 : (s : List ℕ) → 2 ≤ length s → take 2 s ≡ get_or s 0 0 ∷ (get_or s 1 0 ∷ [])
front2 [] h = absurd (omega arith)
front2 (x ∷ []) h = absurd (omega arith)
front2 (x ∷ (y ∷ s)) h = refl

front3 : (s : List ℕ) → 3 ≤ length s → take 3 s ≡ get_or s 0 0 ∷ (get_or s 1 0 ∷ (get_or s 2 0 ∷ []))
front3 [] h = absurd (omega arith)
front3 (x ∷ s) h = ap (λ (r : List ℕ). x ∷ r) (front2 s (omega arith))

front4 : (s : List ℕ) → 4 ≤ length s → take 4 s ≡ get_or s 0 0 ∷ (get_or s 1 0 ∷ (get_or s 2 0 ∷ (get_or s 3 0 ∷ [])))
front4 [] h = absurd (omega arith)
front4 (x ∷ s) h = ap (λ (r : List ℕ). x ∷ r) (front3 s (omega arith))

-- the octets are octets
abbrev pub Octetwise : List ℕ → Type 0
Octetwise s = (k : ℕ) → get_or s k 0 < 256

-- a length that is read is one that has a form
pub measured_small : (s : List ℕ) (h : Header) → Octetwise s → measured s ≡ Ok h → h.content ≤ longest
measured_small s h below e =
    let a = below 2 in
    let b = below 3 in
    elim (shape s h e) [
      | short l o n m ↦ omega arith
      | mid l o n m k ↦ omega arith
      | long l o n m k ↦ omega arith
    ]

-- the octets of a header that is read are the header that would be written
pub measured_front : (s : List ℕ) (h : Header) → Octetwise s → measured s ≡ Ok h → take h.octets s ≡ header (get_or s 0 0) h.content
measured_front s h below e =
    let a = below 2 in
    let b = below 3 in
    elim (shape s h e) [
      | short l low n m ↦
          let w = lengths_short h.content (omega arith) in
          rw n (rw w (rw m (front2 s l)))
      | mid l o high n m ↦
          let w = lengths_mid h.content (omega arith) (omega arith) in
          rw n (rw w (rw m (front3 s l ∙ ap (λ (x : ℕ). get_or s 0 0 ∷ (x ∷ (get_or s 2 0 ∷ []))) o)))
      | long l o some n m ↦
          let w = lengths_long h.content (omega arith) in
          let u : h.content / 256 ≡ get_or s 2 0 = omega arith in
          let v : h.content % 256 ≡ get_or s 3 0 = omega arith in
          rw n (rw w (rw u (rw v (front4 s l ∙ ap (λ (x : ℕ). get_or s 0 0 ∷ (x ∷ (get_or s 2 0 ∷ (get_or s 3 0 ∷ [])))) o))))
    ]
