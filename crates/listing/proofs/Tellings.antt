-- A list is read back from its text. Assumes nothing.
use Rattle.std.proofs.Common.{◌≡◌, ℕ, ◌-◌, ◌%◌, ◌^◌, ◌<◌, ◌≤◌, eqb, leb, List, [], ◌∷◌, ◌++◌, length, codes, decimal, sym, refl, ap, ◌∙◌, ap₂, arith}
use Rattle.std.specs.List.{AllByRecursion}
use Rattle.std.proofs.lemmas.List.{append_assoc, append_cancel_left}
use Rattle.std.proofs.lemmas.Bool.{and_parts, leb-true, eqb-true}
use Rattle.family.specs.declared.Family.{Family}
use Rattle.family.specs.declared.Family.TheVariants.{Ipv4, Ipv6}
use Rattle.payload.specs.declared.Payload.{Payload}
use Rattle.family.specs.Widths.{width}
use Rattle.payload.specs.Laws.{Sized}
use Rattle.listing.specs.Texts.{address_text, line_text, lines_text, head_text}
use Rattle.listing.specs.Laws.{Lawful, TextTells}
use Rattle.listing.proofs.Addresses.{InRun, number_cut, ipv4_cut, ipv6_cut, families_apart}

-- an address with what a lawful prefix says of it
pub address_cut : (f g : Family) (a b l m : ℕ) (u v : List ℕ) → a < 2 ^ 128 → b < 2 ^ 128 → l ≤ width f → m ≤ width g → a % 2 ^ (128 - l) ≡ 0 → b % 2 ^ (128 - m) ≡ 0
    → address_text f a ++ (47 ∷ u) ≡ address_text g b ++ (47 ∷ v) → (f ≡ g) × (a ≡ b) × (u ≡ v)
address_cut Ipv4 Ipv4 a b l m u v fa fb kl km za zb e = let r = ipv4_cut a b l m u v fa fb kl km za zb e in (refl, r.0, r.1)
address_cut Ipv4 Ipv6 a b l m u v fa fb kl km za zb e = absurd (families_apart a b (47 ∷ u) (47 ∷ v) e)
address_cut Ipv6 Ipv4 a b l m u v fa fb kl km za zb e = absurd (families_apart b a (47 ∷ v) (47 ∷ u) (sym e))
address_cut Ipv6 Ipv6 a b l m u v fa fb kl km za zb e = let r = ipv6_cut a b u v fa fb e in (refl, r.0, r.1)

-- a line and what comes after it
abbrev pub opened : Payload → List ℕ → List ℕ
opened p u =
    codes "asn=" ++ (decimal p.asn
    ++ (codes " prefix=" ++ (address_text p.prefix.family p.prefix.address
    ++ (codes "/" ++ (decimal p.prefix.length
    ++ (codes " max=" ++ (decimal p.max ++ (10 ∷ u))))))))

pub line_opens : (p : Payload) (u : List ℕ) → line_text p ++ u ≡ opened p u
unfolding line_text
line_opens p u =
    let d₀ : List ℕ = decimal p.asn in
    let d₁ : List ℕ = address_text p.prefix.family p.prefix.address in
    let d₂ : List ℕ = decimal p.prefix.length in
    let d₃ : List ℕ = decimal p.max in
    let t₃ : List ℕ = d₃ ++ (10 ∷ []) in
    let t₂ : List ℕ = d₂ ++ (codes " max=" ++ t₃) in
    let t₁ : List ℕ = d₁ ++ (codes "/" ++ t₂) in
    let e₃ : t₃ ++ u ≡ d₃ ++ (10 ∷ u) = append_assoc d₃ (10 ∷ []) u in
    let e₂ : t₂ ++ u ≡ d₂ ++ (codes " max=" ++ (d₃ ++ (10 ∷ u))) = append_assoc d₂ (codes " max=" ++ t₃) u ∙ ap (λ (t : List ℕ). d₂ ++ (codes " max=" ++ t)) e₃ in
    let e₁ : t₁ ++ u ≡ d₁ ++ (codes "/" ++ (d₂ ++ (codes " max=" ++ (d₃ ++ (10 ∷ u))))) = append_assoc d₁ (codes "/" ++ t₂) u ∙ ap (λ (t : List ℕ). d₁ ++ (codes "/" ++ t)) e₂ in
    ap (λ (t : List ℕ). codes "asn=" ++ t) (append_assoc d₀ (codes " prefix=" ++ t₁) u ∙ ap (λ (t : List ℕ). d₀ ++ (codes " prefix=" ++ t)) e₁)

made : (f g : Family) (a b l m n o s t : ℕ) → f ≡ g → a ≡ b → l ≡ m → n ≡ o → s ≡ t
    → ◌≡◌ {A = Payload} (record { asn = s; prefix = record { family = f; address = a; length = l }; max = n }) (record { asn = t; prefix = record { family = g; address = b; length = m }; max = o })
made f g a b l m n o s t u v w x y = cc

space : InRun 32 → ⊥
space h = omega (arith, h.0)

newline : InRun 10 → ⊥
newline h = omega (arith, h.0)

-- what a lawful prefix says
pub parts_of : (p : Payload) → Lawful p → (p.prefix.length ≤ width p.prefix.family) × (p.prefix.address % 2 ^ (128 - p.prefix.length) ≡ 0)
parts_of p h =
    let r = and_parts (leb p.prefix.length (width p.prefix.family)) (eqb (p.prefix.address % 2 ^ (128 - p.prefix.length)) 0) h.0 in
    (leb-true _ _ r.0, eqb-true _ _ r.1)

line_cut : (p q : Payload) (u v : List ℕ) → Lawful p → Lawful q → line_text p ++ u ≡ line_text q ++ v → (p ≡ q) × (u ≡ v)
line_cut p q u v lp lq e =
    let a₀ : List ℕ = address_text p.prefix.family p.prefix.address in
    let b₀ : List ℕ = address_text q.prefix.family q.prefix.address in
    let a₁ : List ℕ = decimal p.prefix.length ++ (codes " max=" ++ (decimal p.max ++ (10 ∷ u))) in
    let b₁ : List ℕ = decimal q.prefix.length ++ (codes " max=" ++ (decimal q.max ++ (10 ∷ v))) in
    let sp : Sized p = lp.1 in
    let sq : Sized q = lq.1 in
    let s₀ : p.asn < 2 ^ 32 = sp.asn in
    let t₀ : q.asn < 2 ^ 32 = sq.asn in
    let s₁ : p.prefix.length < 2 ^ 8 = sp.length in
    let t₁ : q.prefix.length < 2 ^ 8 = sq.length in
    let s₂ : p.max < 2 ^ 8 = sp.max in
    let t₂ : q.max < 2 ^ 8 = sq.max in
    let w₀ : decimal p.asn ++ (codes " prefix=" ++ (a₀ ++ (codes "/" ++ a₁))) ≡ decimal q.asn ++ (codes " prefix=" ++ (b₀ ++ (codes "/" ++ b₁))) =
    append_cancel_left (codes "asn=") _ _ (sym (line_opens p u) ∙ e ∙ line_opens q v) in
    let r₀ = number_cut p.asn q.asn 32 32 (codes "prefix=" ++ (a₀ ++ (codes "/" ++ a₁))) (codes "prefix=" ++ (b₀ ++ (codes "/" ++ b₁))) (omega arith) (omega arith) space space w₀ in
    let w₁ : a₀ ++ (codes "/" ++ a₁) ≡ b₀ ++ (codes "/" ++ b₁) = append_cancel_left (codes "prefix=") (a₀ ++ (codes "/" ++ a₁)) (b₀ ++ (codes "/" ++ b₁)) r₀.2 in
    let pp = parts_of p lp in
    let qq = parts_of q lq in
    let r₁ = address_cut p.prefix.family q.prefix.family p.prefix.address q.prefix.address p.prefix.length q.prefix.length a₁ b₁ sp.address sq.address pp.0 qq.0 pp.1 qq.1 w₁ in
    let r₂ = number_cut p.prefix.length q.prefix.length 32 32 (codes "max=" ++ (decimal p.max ++ (10 ∷ u))) (codes "max=" ++ (decimal q.max ++ (10 ∷ v))) (omega arith) (omega arith) space space r₁.2 in
    let w₃ : decimal p.max ++ (10 ∷ u) ≡ decimal q.max ++ (10 ∷ v) = append_cancel_left (codes "max=") (decimal p.max ++ (10 ∷ u)) (decimal q.max ++ (10 ∷ v)) r₂.2 in
    let r₃ = number_cut p.max q.max 10 10 u v (omega arith) (omega arith) newline newline w₃ in
    (made _ _ _ _ _ _ _ _ _ _ r₁.0 r₁.1 r₂.0 r₃.0 r₀.0, r₃.2)

-- no line is empty
pub line_some : (p : Payload) (u : List ℕ) → line_text p ++ u ≡ [] → ⊥
line_some p u e = let f : opened p u ≡ [] = sym (line_opens p u) ∙ e in let n : length (opened p u) ≡ 0 = ap length f in omega arith

lines_tell : (xs ys : List Payload) → AllByRecursion Lawful xs → AllByRecursion Lawful ys → lines_text xs ≡ lines_text ys → xs ≡ ys
lines_tell [] [] a b e = refl
lines_tell [] (y ∷ ys) a b e = absurd (line_some y (lines_text ys) (sym e))
lines_tell (x ∷ xs) [] a b e = absurd (line_some x (lines_text xs) e)
lines_tell (x ∷ xs) (y ∷ ys) a b e =
    let r = line_cut x y (lines_text xs) (lines_text ys) a.0 b.0 e in
    ap₂ (λ (z : Payload) (l : List Payload). z ∷ l) r.0 (lines_tell xs ys a.1 b.1 r.1)

pub head_opens : (n : ℕ) (u : List ℕ) → head_text n ++ u ≡ codes "payloads=" ++ (decimal n ++ (10 ∷ u))
unfolding head_text
head_opens n u = ap (λ (t : List ℕ). codes "payloads=" ++ t) (append_assoc (decimal n) (10 ∷ []) u)

pub text_tells : TextTells
text_tells xs ys a b l m e =
    let w = append_cancel_left (codes "payloads=") _ _ (sym (head_opens (length xs) (lines_text xs)) ∙ e ∙ head_opens (length ys) (lines_text ys)) in
    let r = number_cut (length xs) (length ys) 10 10 (lines_text xs) (lines_text ys) l m newline newline w in
    lines_tell xs ys a b r.2
