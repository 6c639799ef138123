-- A line in print is read as its payload, and a line that is read is in print. Assumes nothing.
use Rattle.std.proofs.Common.{◌≡◌, ℕ, ◌^◌, ◌<◌, Bool, true, false, cond, ◌&&◌, eqb, ltb, List, ◌∷◌, ◌++◌, length, Some, None, Ok, Err, codes, decimal, Option, Result, sym, refl, ap, ◌∙◌, subst, arith}
use Rattle.std.proofs.lemmas.List.{append_assoc, nil_from_length}
use Rattle.std.proofs.lemmas.Bool.{lt-ltb, and_from, ne_eqb}
use Rattle.payload.specs.declared.Payload.{Payload}
use Rattle.payload.specs.declared.Prefix.{Prefix}
use Rattle.payload.specs.Order.{lawful}
use Rattle.payload.specs.Laws.{Sized}
use Rattle.listing.specs.Texts.{address_text, line_text, head_text}
use Rattle.listing.specs.Laws.{Lawful}
use Rattle.listing.proofs.Tellings.{line_opens, head_opens, line_some}
use Rattle.route_text.specs.Pieces.{then_some, after_word, number_of, prefix_of}
use Rattle.route_text.proofs.Steps.{after_own, after_inv}
use Rattle.route_text.proofs.Numbers.{reads_number}
use Rattle.route_text.proofs.Laws.{reads_prefix}
use Rattle.listing_reader.specs.declared.Why.{Why}
use Rattle.listing_reader.specs.declared.Why.TheVariants.{Missing, Prefix as Unlawful, Maximum, Order}
use Rattle.listing_reader.specs.Lines.{sized_of, likely_of, with_rest, line_of, count_of, head_of, fits_max, comes_after, checked, spelt, next_of}
use Rattle.listing_reader.specs.Laws.{Good}

-- what follows each part of a line
abbrev after_max : ℕ → Prefix → ℕ × List ℕ → Option Payload
after_max asn p max = sized_of asn p max.0

abbrev after_max_word : ℕ → Prefix → List ℕ → Option Payload
after_max_word asn p v = then_some (number_of v) (after_max asn p)

abbrev after_prefix : ℕ → Prefix × List ℕ → Option Payload
after_prefix asn p = then_some (after_word (codes " max=") p.1) (after_max_word asn p.0)

abbrev after_prefix_word : ℕ → List ℕ → Option Payload
after_prefix_word asn u = then_some (prefix_of u) (after_prefix asn)

abbrev after_asn : ℕ × List ℕ → Option Payload
after_asn asn = then_some (after_word (codes " prefix=") asn.1) (after_prefix_word asn.0)

abbrev after_asn_word : List ℕ → Option Payload
after_asn_word t = then_some (number_of t) after_asn

likely_reads : (p : Payload) (u : List ℕ) → Lawful p → likely_of (line_text p ++ u) ≡ Some p
likely_reads p u h =
    let z : Sized p = h.1 in
    let la : p.asn < 2 ^ 32 = z.asn in
    let lm : p.max < 2 ^ 8 = z.max in
    let s₄ : List ℕ = decimal p.max ++ (10 ∷ u) in
    let s₃ : List ℕ = codes " max=" ++ s₄ in
    let s₂ : List ℕ = address_text p.prefix.family p.prefix.address ++ (47 ∷ (decimal p.prefix.length ++ s₃)) in
    let s₁ : List ℕ = decimal p.asn ++ (codes " prefix=" ++ s₂) in
    let e₂ : prefix_of s₂ ≡ Some (p.prefix, s₃) =
    ap prefix_of (sym (append_assoc (address_text p.prefix.family p.prefix.address) (47 ∷ decimal p.prefix.length) s₃)) ∙ reads_prefix p.prefix s₃ h.0 z.address refl in
    let f : (ltb p.asn 4294967296 && ltb p.max 256) ≡ true = and_from _ _ (lt-ltb p.asn 4294967296 la) (lt-ltb p.max 256 lm) in
    ap likely_of (line_opens p u)
    ∙ ap (λ (o : Option (List ℕ)). then_some o after_asn_word) (after_own (codes "asn=") s₁)
    ∙ ap (λ (o : Option (ℕ × List ℕ)). then_some o after_asn) (reads_number p.asn (codes " prefix=" ++ s₂) (omega arith) refl)
    ∙ ap (λ (o : Option (List ℕ)). then_some o (after_prefix_word p.asn)) (after_own (codes " prefix=") s₂)
    ∙ ap (λ (o : Option (Prefix × List ℕ)). then_some o (after_prefix p.asn)) e₂
    ∙ ap (λ (o : Option (List ℕ)). then_some o (after_max_word p.asn p.prefix)) (after_own (codes " max=") s₄)
    ∙ ap (λ (o : Option (ℕ × List ℕ)). then_some o (after_max p.asn p.prefix)) (reads_number p.max (10 ∷ u) (omega arith) refl)
    ∙ ap (λ (b : Bool). cond b (Some p) None) f

line_reads : (p : Payload) (u : List ℕ) → Lawful p → line_of (line_text p ++ u) ≡ Some (p, u)
unfolding line_of
line_reads p u h =
    ap (λ (o : Option Payload). then_some o (λ q. with_rest q (after_word (line_text q) (line_text p ++ u)))) (likely_reads p u h)
    ∙ ap (with_rest p) (after_own (line_text p) u)

-- a value in front of what follows its text
rest_inv : {X : Type 0} (text : X → List ℕ) (s : List ℕ) (x : X) (w : Option (List ℕ)) (q : X × List ℕ) → after_word (text x) s ≡ w → with_rest x w ≡ Some q → s ≡ text q.0 ++ q.1
rest_inv text s x None q e f = let z : ◌≡◌ {A = ℕ} 0 1 = cc in absurd (omega arith)
rest_inv {X} text s x (Some t) q e f =
    let g : (x, t) ≡ q = cc in
    let P : X × List ℕ → Type 0 = λ r. s ≡ text r.0 ++ r.1 in
    subst P g (after_inv (text x) s t e)

found_inv : {X : Type 0} (text : X → List ℕ) (s : List ℕ) (o : Option X) (q : X × List ℕ) → then_some o (λ x. with_rest x (after_word (text x) s)) ≡ Some q → s ≡ text q.0 ++ q.1
found_inv text s None q f = let z : ◌≡◌ {A = ℕ} 0 1 = cc in absurd (omega arith)
found_inv text s (Some x) q f = rest_inv text s x (after_word (text x) s) q refl f

line_inv : (s : List ℕ) (q : Payload × List ℕ) → line_of s ≡ Some q → s ≡ line_text q.0 ++ q.1
unfolding line_of
line_inv s q e = found_inv line_text s (likely_of s) q e

-- the first line
count_reads : (n : ℕ) (u : List ℕ) → n < 2 ^ 40 → count_of (head_text n ++ u) ≡ Some n
count_reads n u l =
    ap count_of (head_opens n u)
    ∙ ap (λ (o : Option (List ℕ)). then_some o (λ t. then_some (number_of t) (λ m. Some m.0))) (after_own (codes "payloads=") (decimal n ++ (10 ∷ u)))
    ∙ ap (λ (o : Option (ℕ × List ℕ)). then_some o (λ m. Some m.0)) (reads_number n (10 ∷ u) l refl)

pub head_reads : (n : ℕ) (u : List ℕ) → n < 2 ^ 40 → head_of (head_text n ++ u) ≡ Some (n, u)
unfolding head_of
head_reads n u l =
    ap (λ (o : Option ℕ). then_some o (λ m. with_rest m (after_word (head_text m) (head_text n ++ u)))) (count_reads n u l)
    ∙ ap (with_rest n) (after_own (head_text n) u)

pub head_inv : (s : List ℕ) (h : ℕ × List ℕ) → head_of s ≡ Some h → s ≡ head_text h.0 ++ h.1
unfolding head_of
head_inv s h e = found_inv head_text s (count_of s) h e

-- the next line
line_long : (p : Payload) (u : List ℕ) → eqb (length (line_text p ++ u)) 0 ≡ false
line_long p u = ne_eqb (length (line_text p ++ u)) 0 (λ e. line_some p u (nil_from_length (line_text p ++ u) e))

pub next_reads : (ps : List Payload) (p : Payload) (u : List ℕ) → Good p → comes_after ps p ≡ true → next_of ps (line_text p ++ u) ≡ Ok (p, u)
next_reads ps p u g a =
    ap (λ (b : Bool). cond b (Err Missing) (spelt ps (line_of (line_text p ++ u)))) (line_long p u)
    ∙ ap (spelt ps) (line_reads p u g.0)
    ∙ ap (λ (b : Bool). cond b (cond (fits_max p) (cond (comes_after ps p) (Ok (p, u)) (Err Order)) (Err Maximum)) (Err Unlawful)) g.0.0
    ∙ ap (λ (b : Bool). cond b (cond (comes_after ps p) (Ok (p, u)) (Err Order)) (Err Maximum)) g.1
    ∙ ap (λ (b : Bool). cond b (Ok (p, u)) (Err Order)) a

-- what a line that was read is
pub record Line (ps : List Payload) (s : List ℕ) (q : Payload × List ℕ) : Type 0 where
  pub text : s ≡ line_text q.0 ++ q.1
  pub lawful_prefix : lawful q.0.prefix ≡ true
  pub max : fits_max q.0 ≡ true
  pub last : comes_after ps q.0 ≡ true

-- an answer that a test let through
cond_ok : {X E : Type 0} (b : Bool) (r : Result X E) (e : E) (x : X) → cond b r (Err e) ≡ Ok x → (b ≡ true) × (r ≡ Ok x)
cond_ok true r e x h = (refl, h)
cond_ok false r e x h = let z : ◌≡◌ {A = ℕ} 0 1 = cc in absurd (omega arith)

checked_inv : (ps : List Payload) (s : List ℕ) (r q : Payload × List ℕ) → line_of s ≡ Some r → checked ps r ≡ Ok q → Line ps s q
checked_inv ps s r q e f =
    let a = cond_ok (lawful r.0.prefix) (cond (fits_max r.0) (cond (comes_after ps r.0) (Ok r) (Err Order)) (Err Maximum)) Unlawful q f in
    let b = cond_ok (fits_max r.0) (cond (comes_after ps r.0) (Ok r) (Err Order)) Maximum q a.1 in
    let c = cond_ok (comes_after ps r.0) (Ok r) Order q b.1 in
    let g : Ok r ≡ Ok q = c.1 in
    let h : r ≡ q = cc in
    subst (λ (x : Payload × List ℕ). Line ps s x) h (record { text = line_inv s r e; lawful_prefix = a.0; max = b.0; last = c.0 })

spelt_inv : (ps : List Payload) (s : List ℕ) (o : Option (Payload × List ℕ)) (q : Payload × List ℕ) → line_of s ≡ o → spelt ps o ≡ Ok q → Line ps s q
spelt_inv ps s None q e f = let z : ◌≡◌ {A = ℕ} 0 1 = cc in absurd (omega arith)
spelt_inv ps s (Some r) q e f = checked_inv ps s r q e f

missing_inv : (b : Bool) (r : Result (Payload × List ℕ) Why) (q : Payload × List ℕ) → cond b (Err Missing) r ≡ Ok q → r ≡ Ok q
missing_inv true r q h = let z : ◌≡◌ {A = ℕ} 0 1 = cc in absurd (omega arith)
missing_inv false r q h = h

pub next_inv : (ps : List Payload) (s : List ℕ) (q : Payload × List ℕ) → next_of ps s ≡ Ok q → Line ps s q
next_inv ps s q e = spelt_inv ps s (line_of s) q refl (missing_inv (eqb (length s) 0) (spelt ps (line_of s)) q e)
