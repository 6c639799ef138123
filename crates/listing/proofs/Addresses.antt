-- An address is read back from its text. Assumes nothing.
use Rattle.std.proofs.Common.{◌≡◌, ℕ, zero, suc, ◌+◌, ◌-◌, ◌*◌, ◌/◌, ◌%◌, ◌^◌, ◌<◌, ◌≤◌, List, [], ◌∷◌, ◌++◌, decimal, sym, refl, ap, ◌∙◌, subst, ap₂, ⊎_elim, arith}
use Rattle.std.specs.List.{AllByRecursion}
use lib.Pow.{split}
use Rattle.std.proofs.lemmas.Nat.{shr-shr, mod-pow-add}
use Rattle.std.proofs.lemmas.Fmt.{decimal_by_steps, decimal_injective}
use Rattle.std.proofs.ByRecursion.{All-append}
use Rattle.std.proofs.lemmas.List.{append_assoc}
use Rattle.std.proofs.lemmas.Bool.{cases_lt}
use Rattle.std.proofs.lemmas.Bool.Decides.{nat_tests}
use Rattle.listing.specs.Texts.{octet_at, octets_text, ipv4_text, hex_digit, group_at, group_text, groups_text, ipv6_text}

-- the characters of numbers, decimal and hexadecimal
abbrev pub InRun : ℕ → Type 0
InRun c = (48 ≤ c) × (c ≡ 58 → ⊥)

tail_same : (x y : ℕ) (s t : List ℕ) → x ∷ s ≡ y ∷ t → (x ≡ y) × (s ≡ t)
tail_same x y s t e = (cc, cc)

-- two runs, each with another character after it
pub cut : (s t u v : List ℕ) (c d : ℕ) → AllByRecursion InRun s → AllByRecursion InRun t → (InRun c → ⊥) → (InRun d → ⊥) → s ++ (c ∷ u) ≡ t ++ (d ∷ v) → (s ≡ t) × (c ≡ d) × (u ≡ v)
cut [] [] u v c d a b m n e = let h = tail_same c d u v e in (refl, h.0, h.1)
cut [] (y ∷ t) u v c d a b m n e = let h = tail_same c y u (t ++ (d ∷ v)) e in absurd (m (let P : ℕ → Type 0 = InRun in subst P (sym h.0) b.0))
cut (x ∷ s) [] u v c d a b m n e = let h = tail_same x d (s ++ (c ∷ u)) v e in absurd (n (let P : ℕ → Type 0 = InRun in subst P h.0 a.0))
cut (x ∷ s) (y ∷ t) u v c d a b m n e =
    let h = tail_same x y (s ++ (c ∷ u)) (t ++ (d ∷ v)) e in
    let r = cut s t u v c d a.1 b.1 m n h.1 in
    (ap₂ (λ (z : ℕ) (l : List ℕ). z ∷ l) h.0 r.0, r.1, r.2)

decimal_run : (n : ℕ) → n < 2 ^ 64 → AllByRecursion InRun (decimal n)
decimal_run n l =
    decimal_by_steps (λ _ ds. AllByRecursion InRun ds)
    (λ m k. ((omega arith, λ e. omega arith), tt))
    (λ m ds k h. All-append InRun ds ((48 + m % 10) ∷ []) h ((omega arith, λ e. omega arith), tt))
    n l

-- two numbers, each with another character after it
pub number_cut : (m n c d : ℕ) (u v : List ℕ) → m < 2 ^ 64 → n < 2 ^ 64 → (InRun c → ⊥) → (InRun d → ⊥) → decimal m ++ (c ∷ u) ≡ decimal n ++ (d ∷ v) → (m ≡ n) × (c ≡ d) × (u ≡ v)
number_cut m n c d u v l k p q e =
    let r = cut (decimal m) (decimal n) u v c d (decimal_run m l) (decimal_run n k) p q e in
    (decimal_injective m n l k r.0, r.1, r.2)

-- the octets of two addresses
pub octets_open : (k a : ℕ) (u : List ℕ) → octets_text (suc k) a ++ u ≡ octets_text k a ++ (decimal (octet_at k a) ++ (46 ∷ u))
unfolding octets_text
octets_open k a u = append_assoc (octets_text k a) (decimal (octet_at k a) ++ (46 ∷ [])) u ∙ ap (λ (t : List ℕ). octets_text k a ++ t) (append_assoc (decimal (octet_at k a)) (46 ∷ []) u)

pub octets_first : (a : ℕ) (u : List ℕ) → octets_text 0 a ++ u ≡ u
unfolding octets_text
octets_first a u = refl

pub small : (a k : ℕ) → octet_at k a < 2 ^ 64
small a k = omega arith

octets_cut : (k a b : ℕ) (u v : List ℕ) → octets_text k a ++ u ≡ octets_text k b ++ v → ((i : ℕ) → i < k → octet_at i a ≡ octet_at i b) × (u ≡ v)
octets_cut zero a b u v e = ((λ i l. absurd (omega arith)), sym (octets_first a u) ∙ e ∙ octets_first b v)
octets_cut (suc k) a b u v e =
    let r = octets_cut k a b (decimal (octet_at k a) ++ (46 ∷ u)) (decimal (octet_at k b) ++ (46 ∷ v)) (sym (octets_open k a u) ∙ e ∙ octets_open k b v) in
    let h = number_cut (octet_at k a) (octet_at k b) 46 46 u v (small a k) (small b k) (λ p. omega (arith, p.0)) (λ p. omega (arith, p.0)) r.1 in
    ((λ i l. ⊎_elim (λ m. r.0 i m) (λ m. let P : ℕ → Type 0 = λ n. octet_at n a ≡ octet_at n b in let s : i ≡ k = omega arith in subst P (sym s) h.0) (cases_lt i k)), h.2)

pub ipv4_open : (a : ℕ) (u : List ℕ) → ipv4_text a ++ u ≡ octets_text 3 a ++ (decimal (octet_at 3 a) ++ u)
unfolding ipv4_text
ipv4_open a u = append_assoc (octets_text 3 a) (decimal (octet_at 3 a)) u

-- what a quotient and the digit behind it say
pub digit_more : (a b n w : ℕ) → a / 2 ^ (n + w) ≡ b / 2 ^ (n + w) → a / 2 ^ n % 2 ^ w ≡ b / 2 ^ n % 2 ^ w → a / 2 ^ n ≡ b / 2 ^ n
digit_more a b n w e f =
    let x : ℕ = a / 2 ^ n in
    let y : ℕ = b / 2 ^ n in
    let q : x / 2 ^ w ≡ y / 2 ^ w = shr-shr a n w ∙ e ∙ sym (shr-shr b n w) in
    sym (split x w) ∙ ap₂ (λ (g h : ℕ). g * 2 ^ w + h) q f ∙ split y w

four_octets : (a b : ℕ) → a < 2 ^ 128 → b < 2 ^ 128 → ((i : ℕ) → i < 4 → octet_at i a ≡ octet_at i b) → a / 2 ^ 96 ≡ b / 2 ^ 96
four_octets a b l m h =
    let e₀ : a / 2 ^ 120 ≡ b / 2 ^ 120 = omega (arith, h 0 (omega arith)) in
    let e₁ : a / 2 ^ 112 ≡ b / 2 ^ 112 = digit_more a b 112 8 e₀ (h 1 (omega arith)) in
    let e₂ : a / 2 ^ 104 ≡ b / 2 ^ 104 = digit_more a b 104 8 e₁ (h 2 (omega arith)) in
    digit_more a b 96 8 e₂ (h 3 (omega arith))

-- an address of an IPv4 prefix has no bits past the 32nd
pub back_zero : (a l : ℕ) → l ≤ 32 → a % 2 ^ (128 - l) ≡ 0 → a % 2 ^ 96 ≡ 0
back_zero a l k e =
    let s : 128 - l ≡ (32 - l) + 96 = omega arith in
    let f : a % 2 ^ ((32 - l) + 96) ≡ 0 = ap (λ (n : ℕ). a % 2 ^ n) (sym s) ∙ e in
    let g : a % 2 ^ ((32 - l) + 96) ≡ (a / 2 ^ 96 % 2 ^ (32 - l)) * 2 ^ 96 + a % 2 ^ 96 = mod-pow-add a (32 - l) 96 in
    omega arith

pub ipv4_cut : (a b l m : ℕ) (u v : List ℕ) → a < 2 ^ 128 → b < 2 ^ 128 → l ≤ 32 → m ≤ 32 → a % 2 ^ (128 - l) ≡ 0 → b % 2 ^ (128 - m) ≡ 0 → ipv4_text a ++ (47 ∷ u) ≡ ipv4_text b ++ (47 ∷ v) → (a ≡ b) × (u ≡ v)
ipv4_cut a b l m u v fa fb kl km za zb e =
    let r = octets_cut 3 a b (decimal (octet_at 3 a) ++ (47 ∷ u)) (decimal (octet_at 3 b) ++ (47 ∷ v)) (sym (ipv4_open a (47 ∷ u)) ∙ e ∙ ipv4_open b (47 ∷ v)) in
    let h = number_cut (octet_at 3 a) (octet_at 3 b) 47 47 u v (small a 3) (small b 3) (λ p. omega (arith, p.0)) (λ p. omega (arith, p.0)) r.1 in
    let all : (i : ℕ) → i < 4 → octet_at i a ≡ octet_at i b = λ i l. ⊎_elim (λ k. r.0 i k) (λ k. let P : ℕ → Type 0 = λ n. octet_at n a ≡ octet_at n b in let s : i ≡ 3 = omega arith in subst P (sym s) h.0) (cases_lt i 3) in
    let q : a / 2 ^ 96 ≡ b / 2 ^ 96 = four_octets a b fa fb all in
    let x : a % 2 ^ 96 ≡ 0 = back_zero a l kl za in
    let y : b % 2 ^ 96 ≡ 0 = back_zero b m km zb in
    (omega arith, h.2)

-- the groups of two addresses
pub hex_run : (n : ℕ) → n < 16 → InRun (hex_digit n)
hex_run n l = grind (arith, nat_tests)

hex_same : (m n : ℕ) → m < 16 → n < 16 → hex_digit m ≡ hex_digit n → m ≡ n
hex_same m n l k e = grind (arith, nat_tests)

group_run : (g : ℕ) → g < 65536 → AllByRecursion InRun (group_text g)
unfolding group_text
group_run g l = (hex_run (g / 4096) (omega arith), (hex_run (g / 256 % 16) (omega arith), (hex_run (g / 16 % 16) (omega arith), (hex_run (g % 16) (omega arith), tt))))

group_same : (g h : ℕ) → g < 65536 → h < 65536 → group_text g ≡ group_text h → g ≡ h
unfolding group_text
group_same g h l k e =
    let e₀ = tail_same _ _ _ _ e in
    let e₁ = tail_same _ _ _ _ e₀.1 in
    let e₂ = tail_same _ _ _ _ e₁.1 in
    let e₃ = tail_same _ _ _ _ e₂.1 in
    let d₀ : g / 4096 ≡ h / 4096 = hex_same (g / 4096) (h / 4096) (omega arith) (omega arith) e₀.0 in
    let d₁ : g / 256 % 16 ≡ h / 256 % 16 = hex_same (g / 256 % 16) (h / 256 % 16) (omega arith) (omega arith) e₁.0 in
    let d₂ : g / 16 % 16 ≡ h / 16 % 16 = hex_same (g / 16 % 16) (h / 16 % 16) (omega arith) (omega arith) e₂.0 in
    let d₃ : g % 16 ≡ h % 16 = hex_same (g % 16) (h % 16) (omega arith) (omega arith) e₃.0 in
    omega arith

pub group_cut : (g h c d : ℕ) (u v : List ℕ) → g < 65536 → h < 65536 → (InRun c → ⊥) → (InRun d → ⊥) → group_text g ++ (c ∷ u) ≡ group_text h ++ (d ∷ v) → (g ≡ h) × (c ≡ d) × (u ≡ v)
group_cut g h c d u v l k p q e =
    let r = cut (group_text g) (group_text h) u v c d (group_run g l) (group_run h k) p q e in
    (group_same g h l k r.0, r.1, r.2)

pub groups_open : (k a : ℕ) (u : List ℕ) → groups_text (suc k) a ++ u ≡ groups_text k a ++ (group_text (group_at k a) ++ (58 ∷ u))
unfolding groups_text
groups_open k a u = append_assoc (groups_text k a) (group_text (group_at k a) ++ (58 ∷ [])) u ∙ ap (λ (t : List ℕ). groups_text k a ++ t) (append_assoc (group_text (group_at k a)) (58 ∷ []) u)

pub groups_first : (a : ℕ) (u : List ℕ) → groups_text 0 a ++ u ≡ u
unfolding groups_text
groups_first a u = refl

pub low : (a k : ℕ) → group_at k a < 65536
low a k = omega arith

groups_cut : (k a b : ℕ) (u v : List ℕ) → groups_text k a ++ u ≡ groups_text k b ++ v → ((i : ℕ) → i < k → group_at i a ≡ group_at i b) × (u ≡ v)
groups_cut zero a b u v e = ((λ i l. absurd (omega arith)), sym (groups_first a u) ∙ e ∙ groups_first b v)
groups_cut (suc k) a b u v e =
    let r = groups_cut k a b (group_text (group_at k a) ++ (58 ∷ u)) (group_text (group_at k b) ++ (58 ∷ v)) (sym (groups_open k a u) ∙ e ∙ groups_open k b v) in
    let h = group_cut (group_at k a) (group_at k b) 58 58 u v (low a k) (low b k) (λ p. p.1 refl) (λ p. p.1 refl) r.1 in
    ((λ i l. ⊎_elim (λ m. r.0 i m) (λ m. let P : ℕ → Type 0 = λ n. group_at n a ≡ group_at n b in let s : i ≡ k = omega arith in subst P (sym s) h.0) (cases_lt i k)), h.2)

pub ipv6_open : (a : ℕ) (u : List ℕ) → ipv6_text a ++ u ≡ groups_text 7 a ++ (group_text (group_at 7 a) ++ u)
unfolding ipv6_text
ipv6_open a u = append_assoc (groups_text 7 a) (group_text (group_at 7 a)) u

eight_groups : (a b : ℕ) → a < 2 ^ 128 → b < 2 ^ 128 → ((i : ℕ) → i < 8 → group_at i a ≡ group_at i b) → a ≡ b
eight_groups a b l m h =
    let e₀ : a / 2 ^ 112 ≡ b / 2 ^ 112 = omega (arith, h 0 (omega arith)) in
    let e₁ : a / 2 ^ 96 ≡ b / 2 ^ 96 = digit_more a b 96 16 e₀ (h 1 (omega arith)) in
    let e₂ : a / 2 ^ 80 ≡ b / 2 ^ 80 = digit_more a b 80 16 e₁ (h 2 (omega arith)) in
    let e₃ : a / 2 ^ 64 ≡ b / 2 ^ 64 = digit_more a b 64 16 e₂ (h 3 (omega arith)) in
    let e₄ : a / 2 ^ 48 ≡ b / 2 ^ 48 = digit_more a b 48 16 e₃ (h 4 (omega arith)) in
    let e₅ : a / 2 ^ 32 ≡ b / 2 ^ 32 = digit_more a b 32 16 e₄ (h 5 (omega arith)) in
    let e₆ : a / 2 ^ 16 ≡ b / 2 ^ 16 = digit_more a b 16 16 e₅ (h 6 (omega arith)) in
    let e₇ : a / 2 ^ 0 ≡ b / 2 ^ 0 = digit_more a b 0 16 e₆ (h 7 (omega arith)) in
    omega arith

pub ipv6_cut : (a b : ℕ) (u v : List ℕ) → a < 2 ^ 128 → b < 2 ^ 128 → ipv6_text a ++ (47 ∷ u) ≡ ipv6_text b ++ (47 ∷ v) → (a ≡ b) × (u ≡ v)
ipv6_cut a b u v fa fb e =
    let r = groups_cut 7 a b (group_text (group_at 7 a) ++ (47 ∷ u)) (group_text (group_at 7 b) ++ (47 ∷ v)) (sym (ipv6_open a (47 ∷ u)) ∙ e ∙ ipv6_open b (47 ∷ v)) in
    let h = group_cut (group_at 7 a) (group_at 7 b) 47 47 u v (low a 7) (low b 7) (λ p. omega (arith, p.0)) (λ p. omega (arith, p.0)) r.1 in
    let all : (i : ℕ) → i < 8 → group_at i a ≡ group_at i b = λ i l. ⊎_elim (λ k. r.0 i k) (λ k. let P : ℕ → Type 0 = λ n. group_at n a ≡ group_at n b in let s : i ≡ 7 = omega arith in subst P (sym s) h.0) (cases_lt i 7) in
    (eight_groups a b fa fb all, h.2)

-- an IPv4 address has "." after its first number, an IPv6 address ":"
octets_begin : (k a : ℕ) (u : List ℕ) → (rest : List ℕ) × (octets_text (suc k) a ++ u ≡ decimal (octet_at 0 a) ++ (46 ∷ rest))
octets_begin zero a u = (u, octets_open 0 a u ∙ octets_first a (decimal (octet_at 0 a) ++ (46 ∷ u)))
octets_begin (suc k) a u =
    let r = octets_begin k a (decimal (octet_at (suc k) a) ++ (46 ∷ u)) in
    (r.0, octets_open (suc k) a u ∙ r.1)

pub groups_begin : (k a : ℕ) (u : List ℕ) → (rest : List ℕ) × (groups_text (suc k) a ++ u ≡ group_text (group_at 0 a) ++ (58 ∷ rest))
groups_begin zero a u = (u, groups_open 0 a u ∙ groups_first a (group_text (group_at 0 a) ++ (58 ∷ u)))
groups_begin (suc k) a u =
    let r = groups_begin k a (group_text (group_at (suc k) a) ++ (58 ∷ u)) in
    (r.0, groups_open (suc k) a u ∙ r.1)

pub families_apart : (a b : ℕ) (u v : List ℕ) → ipv4_text a ++ u ≡ ipv6_text b ++ v → ⊥
families_apart a b u v e =
    let p = octets_begin 2 a (decimal (octet_at 3 a) ++ u) in
    let q = groups_begin 6 b (group_text (group_at 7 b) ++ v) in
    let f : decimal (octet_at 0 a) ++ (46 ∷ p.0) ≡ group_text (group_at 0 b) ++ (58 ∷ q.0) = sym (ipv4_open a u ∙ p.1) ∙ e ∙ (ipv6_open b v ∙ q.1) in
    let r = cut (decimal (octet_at 0 a)) (group_text (group_at 0 b)) p.0 q.0 46 58 (decimal_run (octet_at 0 a) (small a 0)) (group_run (group_at 0 b) (low b 0)) (λ h. omega (arith, h.0)) (λ h. h.1 refl) f in
    omega (arith, r.1)
