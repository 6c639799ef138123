-- Prefixes, routes and origins in print are read as themselves. Assumes nothing.
use Rattle.std.proofs.Common.{◌≡◌, ℕ, ◌+◌, ◌-◌, ◌*◌, ◌/◌, ◌%◌, ◌^◌, ◌<◌, ◌≤◌, Bool, true, false, cond, not, ◌&&◌, eqb, ltb, leb, List, [], ◌∷◌, ◌++◌, Some, None, Ok, Err, codes, decimal, Option, sym, refl, ap, ◌∙◌, inl, inr, arith}
use Rattle.std.specs.Str.{bytes_eq}
use Rattle.std.proofs.lemmas.Fmt.{decimal_by_steps}
use Rattle.std.proofs.lemmas.List.{append_assoc, append-nil}
use Rattle.std.proofs.lemmas.Bool.{cases_Bool, le-leb, lt-ltb, eqb-true, leb-true, ne_eqb, and_parts, and_from}
use Rattle.std.proofs.lemmas.Bool.Decides.{nat_tests}
use Rattle.family.specs.declared.Family.{Family}
use Rattle.family.specs.declared.Family.TheVariants.{Ipv4, Ipv6}
use Rattle.payload.specs.declared.Prefix.{Prefix}
use Rattle.family.specs.Widths.{width}
use Rattle.listing.specs.Texts.{hex_digit, group_at, group_text, ipv4_text, ipv6_text, address_text}
use Rattle.listing.proofs.Addresses.{groups_begin, ipv6_open, back_zero}
use Rattle.route_text.specs.Pieces.{then_some, after_word, is_digit, with_digit, digits_from, number_of, small, octet_of, octet_dot, quad_of, past_colon, six_of, either_of, Addressed, address_of, length_of, prefix_of}
use Rattle.route_text.specs.declared.Misspelt.TheVariants.{Origin}
use Rattle.route_text.specs.Words.{only_prefix, only_asn, asn_of, present, digits_of, origin_of}
use Rattle.route_text.specs.Laws.{starts_digit, prefix_text, ReadsPrefix, ReadsRoute, ReadsOrigin}
use Rattle.route_text.proofs.Numbers.{reads_number}
use Rattle.route_text.proofs.Quads.{ipv4_reads}
use Rattle.route_text.proofs.Runs.{Stops, ipv6_reads, low}

-- the first character that is no digit is not "."
abbrev no_dot : List ℕ → Bool
no_dot [] = true
no_dot (c ∷ s) = cond (is_digit c) (no_dot s) (not (eqb c 46))

abbrev dot : List ℕ → Option (List ℕ)
dot s = after_word (46 ∷ []) s

digit_no_dot : (c : ℕ) → is_digit c ≡ true → eqb c 46 ≡ false
digit_no_dot c e = let h : 48 ≤ c = leb-true 48 c (and_parts (leb 48 c) (leb c 57) e).0 in ne_eqb c 46 (λ z. omega arith)

no_dot_first : (s : List ℕ) → no_dot s ≡ true → dot s ≡ None
no_dot_first [] h = refl
no_dot_first (c ∷ s) h = elim (cases_Bool (is_digit c)) [
  | inl e ↦ ap (λ (b : Bool). cond b (Some s) None) (digit_no_dot c e)
  | inr e ↦
      let f : not (eqb c 46) ≡ true = sym (ap (λ (b : Bool). cond b (no_dot s) (not (eqb c 46))) e) ∙ h in
      elim (cases_Bool (eqb c 46)) [
        | inl t ↦ let z : false ≡ true = sym (ap not t) ∙ f in let y : ◌≡◌ {A = ℕ} 0 1 = cc in absurd (omega arith)
        | inr t ↦ ap (λ (b : Bool). cond b (Some s) None) t
      ]
]

no_dot_digits : (v : ℕ) (s : List ℕ) → no_dot s ≡ true → dot (digits_from v s).1 ≡ None
no_dot_digits v [] h = refl
no_dot_digits v (c ∷ s) h = elim (cases_Bool (is_digit c)) [
  | inl e ↦
      ap (λ (b : Bool). dot (cond b (digits_from (with_digit v c) s) (v, c ∷ s)).1) e
      ∙ no_dot_digits (with_digit v c) s (sym (ap (λ (b : Bool). cond b (no_dot s) (not (eqb c 46))) e) ∙ h)
  | inr e ↦ ap (λ (b : Bool). dot (cond b (digits_from (with_digit v c) s) (v, c ∷ s)).1) e ∙ no_dot_first (c ∷ s) h
]

-- an octet and "." after it
abbrev dotted : ℕ × List ℕ → Option (ℕ × List ℕ)
dotted o = then_some (dot o.1) (λ t. Some (o.0, t))

no_dotted : (p : ℕ × List ℕ) → dot p.1 ≡ None → then_some (small p) dotted ≡ None
no_dotted p h = elim (cases_Bool (ltb p.0 256)) [
  | inl e ↦ ap (λ (b : Bool). then_some (cond b (Some p) None) dotted) e ∙ ap (λ (o : Option (List ℕ)). then_some o (λ t. Some (p.0, t))) h
  | inr e ↦ ap (λ (b : Bool). then_some (cond b (Some p) None) dotted) e
]

no_octet : (s : List ℕ) → no_dot s ≡ true → octet_dot s ≡ None
no_octet [] h = refl
no_octet (c ∷ s) h = elim (cases_Bool (is_digit c)) [
  | inl e ↦
      let k : no_dot s ≡ true = sym (ap (λ (b : Bool). cond b (no_dot s) (not (eqb c 46))) e) ∙ h in
      ap (λ (b : Bool). then_some (then_some (cond b (Some (cond (eqb c 48) (0, s) (digits_from (c - 48) s))) None) small) dotted) e
      ∙ elim (cases_Bool (eqb c 48)) [
        | inl z ↦ ap (λ (b : Bool). then_some (small (cond b (0, s) (digits_from (c - 48) s))) dotted) z ∙ no_dotted (0, s) (no_dot_first s k)
        | inr z ↦
            ap (λ (b : Bool). then_some (small (cond b (0, s) (digits_from (c - 48) s))) dotted) z
            ∙ no_dotted (digits_from (c - 48) s) (no_dot_digits (c - 48) s k)
      ]
  | inr e ↦ ap (λ (b : Bool). then_some (then_some (cond b (Some (cond (eqb c 48) (0, s) (digits_from (c - 48) s))) None) small) dotted) e
]

-- an IPv6 address in print is no IPv4 address
hex_no_dot : (n : ℕ) (s : List ℕ) → n < 16 → no_dot s ≡ true → no_dot (hex_digit n ∷ s) ≡ true
hex_no_dot n s l h = elim (cases_Bool (is_digit (hex_digit n))) [
  | inl e ↦ ap (λ (b : Bool). cond b (no_dot s) (not (eqb (hex_digit n) 46))) e ∙ h
  | inr e ↦
      let k : 48 ≤ hex_digit n = grind (arith, nat_tests) in
      ap (λ (b : Bool). cond b (no_dot s) (not (eqb (hex_digit n) 46))) e ∙ ap not (ne_eqb (hex_digit n) 46 (λ z. omega arith))
]

group_no_dot : (g : ℕ) (u : List ℕ) → g < 65536 → no_dot (group_text g ++ (58 ∷ u)) ≡ true
unfolding group_text
group_no_dot g u l =
    let s₃ : List ℕ = hex_digit (g % 16) ∷ (58 ∷ u) in
    let s₂ : List ℕ = hex_digit (g / 16 % 16) ∷ s₃ in
    let s₁ : List ℕ = hex_digit (g / 256 % 16) ∷ s₂ in
    hex_no_dot (g / 4096) s₁ (omega arith) (hex_no_dot (g / 256 % 16) s₂ (omega arith) (hex_no_dot (g / 16 % 16) s₃ (omega arith) (hex_no_dot (g % 16) (58 ∷ u) (omega arith) refl)))

ipv6_no_quad : (a : ℕ) (u : List ℕ) → quad_of (ipv6_text a ++ u) ≡ None
ipv6_no_quad a u =
    let r = groups_begin 6 a (group_text (group_at 7 a) ++ u) in
    let e : ipv6_text a ++ u ≡ group_text (group_at 0 a) ++ (58 ∷ r.0) = ipv6_open a u ∙ r.1 in
    let h : octet_dot (ipv6_text a ++ u) ≡ None = ap octet_dot e ∙ no_octet (group_text (group_at 0 a) ++ (58 ∷ r.0)) (group_no_dot (group_at 0 a) r.0 (low a 0)) in
    ap (λ (x : Option (ℕ × List ℕ)). then_some x (λ a₀.
    then_some (octet_dot a₀.1) (λ b.
    then_some (octet_dot b.1) (λ c.
    then_some (octet_of c.1) (λ d.
    Some ((a₀.0 * 16777216 + b.0 * 65536 + c.0 * 256 + d.0) * 79228162514264337593543950336, d.1)))))) h

slash_stops : (u : List ℕ) → Stops (47 ∷ u)
unfolding past_colon
slash_stops u = record { hex = refl; colon = refl }

address_reads : (f : Family) (a l : ℕ) (u : List ℕ) → l ≤ width f → a < 2 ^ 128 → a % 2 ^ (128 - l) ≡ 0 → address_of (address_text f a ++ (47 ∷ u)) ≡ Some (f, a, 47 ∷ u)
address_reads Ipv4 a l u k h z =
    ap (λ (x : Option (ℕ × List ℕ)). either_of x (six_of (ipv4_text a ++ (47 ∷ u)))) (ipv4_reads a (47 ∷ u) h (back_zero a l k z) refl)
address_reads Ipv6 a l u k h z =
    ap (λ (x : Option (ℕ × List ℕ)). either_of x (six_of (ipv6_text a ++ (47 ∷ u)))) (ipv6_no_quad a (47 ∷ u))
    ∙ ap (either_of None) (ipv6_reads a (47 ∷ u) h (slash_stops u))

-- what follows an address, and a length
abbrev lengthed : Family → ℕ → ℕ × List ℕ → Option (Prefix × List ℕ)
lengthed f a n = Some (record { family = f; address = a; length = length_of n.0 }, n.1)

abbrev slashed : Addressed → Option (Prefix × List ℕ)
slashed a = then_some (after_word (47 ∷ []) a.2) (λ t. then_some (number_of t) (lengthed a.0 a.1))

abbrev made : Family → ℕ → ℕ → Prefix
made f a l = record { family = f; address = a; length = l }

width_le : (f : Family) → width f ≤ 128
width_le Ipv4 = omega arith
width_le Ipv6 = omega arith

pub reads_prefix : ReadsPrefix
reads_prefix p u h b e =
    let q = and_parts (leb p.length (width p.family)) (eqb (p.address % 2 ^ (128 - p.length)) 0) h in
    let l : p.length ≤ width p.family = leb-true _ _ q.0 in
    let w : width p.family ≤ 128 = width_le p.family in
    let z : p.address % 2 ^ (128 - p.length) ≡ 0 = eqb-true _ _ q.1 in
    let t : List ℕ = decimal p.length ++ u in
    let n : length_of p.length ≡ p.length = ap (λ (x : Bool). cond x p.length 255) (lt-ltb p.length 255 (omega arith)) in
    ap prefix_of (append_assoc (address_text p.family p.address) (47 ∷ decimal p.length) u)
    ∙ ap (λ (x : Option Addressed). then_some x slashed) (address_reads p.family p.address p.length t l b z)
    ∙ ap (λ (x : Option (ℕ × List ℕ)). then_some x (lengthed p.family p.address)) (reads_number p.length u (omega arith) e)
    ∙ ap (λ (x : ℕ). Some (made p.family p.address x, u)) n

pub reads_route : ReadsRoute
reads_route p h b = ap (λ (s : List ℕ). only_prefix (prefix_of s)) (sym (append-nil (prefix_text p))) ∙ ap only_prefix (reads_prefix p [] h b refl)

-- a number in print begins with a digit
starts_append : (s t : List ℕ) → starts_digit s ≡ true → starts_digit (s ++ t) ≡ true
starts_append [] t e = let z : ◌≡◌ {A = ℕ} 0 1 = cc in absurd (omega arith)
starts_append (c ∷ s) t e = e

decimal_starts : (n : ℕ) → n < 2 ^ 64 → starts_digit (decimal n) ≡ true
decimal_starts n l =
    decimal_by_steps (λ _ ds. starts_digit ds ≡ true)
    (λ m k. and_from _ _ (le-leb 48 (48 + m) (omega arith)) (le-leb (48 + m) 57 (omega arith)))
    (λ m ds k h. starts_append ds ((48 + m % 10) ∷ []) h)
    n l

digit_word : (s : List ℕ) → starts_digit s ≡ true → (bytes_eq s (codes "none") ≡ false) × (after_word (65 ∷ (83 ∷ [])) s ≡ None)
digit_word [] e = let z : ◌≡◌ {A = ℕ} 0 1 = cc in absurd (omega arith)
digit_word (c ∷ s) e =
    let k : c ≤ 57 = leb-true c 57 (and_parts (leb 48 c) (leb c 57) e).1 in
    (ap (λ (b : Bool). b && bytes_eq s (codes "one")) (ne_eqb c 110 (λ z. omega arith)), ap (λ (b : Bool). cond b (after_word (83 ∷ []) s) None) (ne_eqb c 65 (λ z. omega arith)))

asn_reads : (n : ℕ) → n < 2 ^ 32 → asn_of (decimal n) ≡ Ok n
asn_reads n l =
    ap (λ (s : List ℕ). only_asn (number_of s)) (sym (append-nil (decimal n))) ∙ ap only_asn (reads_number n [] (omega arith) refl)
    ∙ ap (λ (b : Bool). cond b (Ok n) (Err Origin)) (lt-ltb n 4294967296 l)

bare_reads : (n : ℕ) → n < 2 ^ 32 → origin_of (decimal n) ≡ Ok (Some n)
bare_reads n l =
    let d = digit_word (decimal n) (decimal_starts n (omega arith)) in
    ap (λ (b : Bool). cond b (Ok None) (present (asn_of (digits_of (decimal n) (after_word (65 ∷ (83 ∷ [])) (decimal n)))))) d.0
    ∙ ap (λ (o : Option (List ℕ)). present (asn_of (digits_of (decimal n) o))) d.1
    ∙ ap present (asn_reads n l)

pub reads_origin : ReadsOrigin
reads_origin = record { bare = bare_reads; named = λ n l. ap present (asn_reads n l); absent = refl }
