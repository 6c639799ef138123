-- An IPv4 address in print is read as itself. Assumes nothing.
use Rattle.std.proofs.Common.{◌≡◌, ℕ, ◌+◌, ◌*◌, ◌/◌, ◌%◌, ◌^◌, ◌<◌, Bool, false, cond, List, [], ◌∷◌, ◌++◌, Some, None, decimal, Option, refl, ap, ◌∙◌, arith}
use Rattle.std.proofs.lemmas.Nat.{shr-shr}
use Rattle.std.proofs.lemmas.Bool.{lt-ltb}
use Rattle.listing.specs.Texts.{octet_at, ipv4_text}
use Rattle.listing.proofs.Addresses.{octets_open, octets_first, ipv4_open}
use Rattle.route_text.specs.Pieces.{then_some, after_word, small, octet_of, octet_dot, quad_of}
use Rattle.route_text.specs.Laws.{starts_digit}
use Rattle.route_text.proofs.Numbers.{reads_number}

octet_reads : (o : ℕ) (u : List ℕ) → o < 256 → starts_digit u ≡ false → octet_of (decimal o ++ u) ≡ Some (o, u)
octet_reads o u l e =
    ap (λ (x : Option (ℕ × List ℕ)). then_some x small) (reads_number o u (omega arith) e)
    ∙ ap (λ (t : Bool). cond t (Some (o, u)) None) (lt-ltb o 256 l)

dot_reads : (o : ℕ) (u : List ℕ) → o < 256 → octet_dot (decimal o ++ (46 ∷ u)) ≡ Some (o, u)
dot_reads o u l =
    ap (λ (x : Option (ℕ × List ℕ)). then_some x (λ p. then_some (after_word (46 ∷ []) p.1) (λ t. Some (p.0, t)))) (octet_reads o (46 ∷ u) l refl)

-- what follows each octet of an address
abbrev last : ℕ → ℕ → ℕ → ℕ × List ℕ → Option (ℕ × List ℕ)
last a b c d = Some ((a * 16777216 + b * 65536 + c * 256 + d.0) * 79228162514264337593543950336, d.1)

abbrev third : ℕ → ℕ → ℕ × List ℕ → Option (ℕ × List ℕ)
third a b c = then_some (octet_of c.1) (last a b c.0)

abbrev second : ℕ → ℕ × List ℕ → Option (ℕ × List ℕ)
second a b = then_some (octet_dot b.1) (third a b.0)

abbrev first : ℕ × List ℕ → Option (ℕ × List ℕ)
first a = then_some (octet_dot a.1) (second a.0)

quad_reads : (a b c d : ℕ) (u : List ℕ) → a < 256 → b < 256 → c < 256 → d < 256 → starts_digit u ≡ false
    → quad_of (decimal a ++ (46 ∷ (decimal b ++ (46 ∷ (decimal c ++ (46 ∷ (decimal d ++ u))))))) ≡ Some ((a * 16777216 + b * 65536 + c * 256 + d) * 79228162514264337593543950336, u)
quad_reads a b c d u la lb lc ld e =
    let s₃ : List ℕ = decimal d ++ u in
    let s₂ : List ℕ = decimal c ++ (46 ∷ s₃) in
    let s₁ : List ℕ = decimal b ++ (46 ∷ s₂) in
    ap (λ (x : Option (ℕ × List ℕ)). then_some x first) (dot_reads a s₁ la)
    ∙ ap (λ (x : Option (ℕ × List ℕ)). then_some x (second a)) (dot_reads b s₂ lb)
    ∙ ap (λ (x : Option (ℕ × List ℕ)). then_some x (third a b)) (dot_reads c s₃ lc)
    ∙ ap (λ (x : Option (ℕ × List ℕ)). then_some x (last a b c)) (octet_reads d u ld e)

-- four octets are the first 32 bits
octets_sum : (a : ℕ) → a < 2 ^ 128 → a % 2 ^ 96 ≡ 0 → (octet_at 0 a * 16777216 + octet_at 1 a * 65536 + octet_at 2 a * 256 + octet_at 3 a) * 79228162514264337593543950336 ≡ a
octets_sum a l z =
    let q : ℕ = a / 2 ^ 96 in
    let e₀ : q / 2 ^ 24 ≡ a / 2 ^ 120 = shr-shr a 96 24 in
    let e₁ : q / 2 ^ 16 ≡ a / 2 ^ 112 = shr-shr a 96 16 in
    let e₂ : q / 2 ^ 8 ≡ a / 2 ^ 104 = shr-shr a 96 8 in
    let k : q < 2 ^ 32 = omega arith in
    omega arith

ipv4_opens : (a : ℕ) (u : List ℕ) → ipv4_text a ++ u ≡ decimal (octet_at 0 a) ++ (46 ∷ (decimal (octet_at 1 a) ++ (46 ∷ (decimal (octet_at 2 a) ++ (46 ∷ (decimal (octet_at 3 a) ++ u))))))
ipv4_opens a u =
    let s₃ : List ℕ = decimal (octet_at 3 a) ++ u in
    let s₂ : List ℕ = decimal (octet_at 2 a) ++ (46 ∷ s₃) in
    let s₁ : List ℕ = decimal (octet_at 1 a) ++ (46 ∷ s₂) in
    ipv4_open a u ∙ octets_open 2 a s₃ ∙ octets_open 1 a s₂ ∙ octets_open 0 a s₁ ∙ octets_first a (decimal (octet_at 0 a) ++ (46 ∷ s₁))

pub ipv4_reads : (a : ℕ) (u : List ℕ) → a < 2 ^ 128 → a % 2 ^ 96 ≡ 0 → starts_digit u ≡ false → quad_of (ipv4_text a ++ u) ≡ Some (a, u)
ipv4_reads a u l z e =
    ap quad_of (ipv4_opens a u)
    ∙ quad_reads (octet_at 0 a) (octet_at 1 a) (octet_at 2 a) (octet_at 3 a) u (omega arith) (omega arith) (omega arith) (omega arith) e
    ∙ ap (λ (n : ℕ). Some (n, u)) (octets_sum a l z)
