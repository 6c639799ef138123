-- IPv6 addresses: eight groups, in either case. Assumes nothing.
use Rattle.std.specs.Prelude.{◌≡◌, ℕ, ◌+◌, ◌*◌, ◌/◌, ◌%◌, ◌^◌, ◌<◌, true, false, List, [], ◌∷◌, ◌++◌, map, Some, None, Option, nat_eq, refl}
use Rattle.std.proofs.Common.{sym, ap, subst, ◌∙◌, inl, inr, arith}
use Rattle.std.specs.Char.{to_ascii_lowercase}
use Rattle.pieces.specs.Marks.{pieces_of, joined, lacking, and_then, at_end}
use Rattle.pieces.proofs.Splits.{joined_pieces, pieces_joined}
use Rattle.points.specs.declared.V6.{V6}
use Rattle.points.specs.Ranks.{v6_fits}
use Rattle.point_words.specs.Texts.{group_text, group_of, quad_parts, quad_from, v6_text, v6_from, v6_of}
use Rattle.point_words.proofs.Parts.{Parts, then_inv, end_inv, four_inv, four_read, four_map, lacking_parts, lacking_lower, pieces_lower}
use Rattle.point_words.proofs.Narrow.{group_blind, group_inv, group_read, group_lacks}

-- the groups of 64 bits, put together and taken apart
quad_parts_lem : (a b c d : ℕ) → a < 65536 → b < 65536 → c < 65536 → d < 65536
    → quad_parts (a * 281474976710656 + b * 4294967296 + c * 65536 + d) ≡ group_text a ∷ (group_text b ∷ (group_text c ∷ (group_text d ∷ [])))
quad_parts_lem a b c d p q r s =
    let n : ℕ = a * 281474976710656 + b * 4294967296 + c * 65536 + d in
    let i : n / 281474976710656 ≡ a = omega arith in
    let j : n / 4294967296 % 65536 ≡ b = omega arith in
    let k : n / 65536 % 65536 ≡ c = omega arith in
    let l : n % 65536 ≡ d = omega arith in
    ap (λ (x : ℕ). group_text x ∷ (group_text (n / 4294967296 % 65536) ∷ (group_text (n / 65536 % 65536) ∷ (group_text (n % 65536) ∷ [])))) i
    ∙ ap (λ (x : ℕ). group_text a ∷ (group_text x ∷ (group_text (n / 65536 % 65536) ∷ (group_text (n % 65536) ∷ [])))) j
    ∙ ap (λ (x : ℕ). group_text a ∷ (group_text b ∷ (group_text x ∷ (group_text (n % 65536) ∷ [])))) k
    ∙ ap (λ (x : ℕ). group_text a ∷ (group_text b ∷ (group_text c ∷ (group_text x ∷ [])))) l

quad_whole : (n : ℕ) → n < 2 ^ 64 → n / 281474976710656 * 281474976710656 + n / 4294967296 % 65536 * 4294967296 + n / 65536 % 65536 * 65536 + n % 65536 ≡ n
quad_whole n l = omega arith

-- 64 bits from their groups
quad_read : (n : ℕ) (rest : Parts) → n < 2 ^ 64 → quad_from (quad_parts n ++ rest) ≡ Some (n, rest)
quad_read n rest l =
    let a : ℕ = n / 281474976710656 in
    let b : ℕ = n / 4294967296 % 65536 in
    let c : ℕ = n / 65536 % 65536 in
    let d : ℕ = n % 65536 in
    four_read group_of (group_text a) (group_text b) (group_text c) (group_text d) rest a b c d (λ a b c d more. Some (a * 281474976710656 + b * 4294967296 + c * 65536 + d, more))
    (group_read a (omega arith)) (group_read b (omega arith)) (group_read c (omega arith)) (group_read d (omega arith))
    ∙ ap (λ (k : ℕ). Some (k, rest)) (quad_whole n l)

abbrev Quad : Parts → ℕ × Parts → Type 0
Quad ws p = (map (map to_ascii_lowercase) ws ≡ quad_parts p.0 ++ map (map to_ascii_lowercase) p.1) × (p.0 < 2 ^ 64)

quad_inv : (ws : Parts) (p : ℕ × Parts) → quad_from ws ≡ Some p → Quad ws p
quad_inv ws p h =
    let f = four_inv group_of ws (λ a b c d rest. Some (a * 281474976710656 + b * 4294967296 + c * 65536 + d, rest)) p h in
    let a : ℕ = f.a in
    let b : ℕ = f.b in
    let c : ℕ = f.c in
    let d : ℕ = f.d in
    let n : ℕ = a * 281474976710656 + b * 4294967296 + c * 65536 + d in
    let g : Some (n, f.rest) ≡ Some p = f.after in
    let e : (n, f.rest) ≡ p = cc in
    let i = group_inv f.word_a a f.read_a in
    let j = group_inv f.word_b b f.read_b in
    let k = group_inv f.word_c c f.read_c in
    let l = group_inv f.word_d d f.read_d in
    let rest : Parts = map (map to_ascii_lowercase) f.rest in
    let t : map (map to_ascii_lowercase) ws ≡ quad_parts n ++ rest =
    ap (map (map to_ascii_lowercase)) f.whole
    ∙ ap (λ (v : List ℕ). v ∷ (map to_ascii_lowercase f.word_b ∷ (map to_ascii_lowercase f.word_c ∷ (map to_ascii_lowercase f.word_d ∷ rest)))) i.0
    ∙ ap (λ (v : List ℕ). group_text a ∷ (v ∷ (map to_ascii_lowercase f.word_c ∷ (map to_ascii_lowercase f.word_d ∷ rest)))) j.0
    ∙ ap (λ (v : List ℕ). group_text a ∷ (group_text b ∷ (v ∷ (map to_ascii_lowercase f.word_d ∷ rest)))) k.0
    ∙ ap (λ (v : List ℕ). group_text a ∷ (group_text b ∷ (group_text c ∷ (v ∷ rest)))) l.0
    ∙ sym (ap (λ (v : Parts). v ++ rest) (quad_parts_lem a b c d i.1 j.1 k.1 l.1)) in
    let small : n < 2 ^ 64 = omega (arith, i.1, j.1, k.1, l.1) in
    subst (Quad ws) e (t, small)

-- case makes no difference
abbrev relower : Option (ℕ × Parts) → Option (ℕ × Parts)
relower None = None
relower (Some p) = Some (p.0, map (map to_ascii_lowercase) p.1)

quad_blind : (ws : Parts) → quad_from (map (map to_ascii_lowercase) ws) ≡ relower (quad_from ws)
quad_blind ws = four_map group_of (map to_ascii_lowercase) group_blind relower refl ws (λ a b c d rest. Some (a * 281474976710656 + b * 4294967296 + c * 65536 + d, rest)) (λ a b c d rest. refl)

end_blind : (ws : Parts) (x : V6) → at_end (map (map to_ascii_lowercase) ws) x ≡ at_end ws x
end_blind [] x = refl
end_blind (w ∷ ws) x = refl

abbrev low_from : ℕ → Option (ℕ × Parts) → Option V6
low_from high r = and_then r (λ b. at_end b.1 (record { high = high; low = b.0 }))

low_blind : (high : ℕ) (r : Option (ℕ × Parts)) → low_from high (relower r) ≡ low_from high r
low_blind high None = refl
low_blind high (Some p) = end_blind p.1 (record { high = high; low = p.0 })

high_blind : (r : Option (ℕ × Parts)) → and_then (relower r) (λ a. low_from a.0 (quad_from a.1)) ≡ and_then r (λ a. low_from a.0 (quad_from a.1))
high_blind None = refl
high_blind (Some p) = ap (low_from p.0) (quad_blind p.1) ∙ low_blind p.0 (quad_from p.1)

pub v6_blind : (w : List ℕ) → v6_of (map to_ascii_lowercase w) ≡ v6_of w
v6_blind w =
    ap v6_from (pieces_lower 58 w (omega arith))
    ∙ ap (λ (r : Option (ℕ × Parts)). and_then r (λ a. low_from a.0 (quad_from a.1))) (quad_blind (pieces_of 58 w))
    ∙ high_blind (quad_from (pieces_of 58 w))

-- the text of an address is read as the address
pub v6_read : (x : V6) → v6_fits x → v6_of (v6_text x) ≡ Some x
v6_read x h =
    let n : ℕ = x.high in
    let l : ℕ = x.low in
    let g : (k : ℕ) → lacking 58 (group_text k) ≡ true = λ k. group_lacks 58 k (inr refl) in
    ap v6_from (pieces_joined 58 (group_text (n / 281474976710656)) (group_text (n / 4294967296 % 65536) ∷ (group_text (n / 65536 % 65536) ∷ (group_text (n % 65536) ∷ quad_parts l)))
    (g _, (g _, (g _, (g _, (g _, (g _, (g _, (g _, tt)))))))))
    ∙ ap (λ (r : Option (ℕ × Parts)). and_then r (λ a. low_from a.0 (quad_from a.1))) (quad_read n (quad_parts l) h.0)
    ∙ ap (low_from n) (quad_read l [] h.1)

-- a text of eight groups holds no mark of a list
quad_lacks : (m n : ℕ) (rest : List ℕ) → m < 48 → lacking m rest ≡ true
    → lacking m (group_text (n / 281474976710656) ++ (58 ∷ (group_text (n / 4294967296 % 65536) ++ (58 ∷ (group_text (n / 65536 % 65536) ++ (58 ∷ rest)))))) ≡ true
quad_lacks m n rest l h =
    let e : nat_eq 58 m ≡ false = grind arith in
    let g : (k : ℕ) → lacking m (group_text k) ≡ true = λ k. group_lacks m k (inl l) in
    lacking_parts m 58 (group_text (n / 281474976710656)) _ e (g _) (lacking_parts m 58 (group_text (n / 4294967296 % 65536)) _ e (g _) (lacking_parts m 58 (group_text (n / 65536 % 65536)) rest e (g _) h))

v6_lacks : (m : ℕ) (x : V6) → m < 48 → lacking m (v6_text x) ≡ true
v6_lacks m x l =
    let e : nat_eq 58 m ≡ false = grind arith in
    quad_lacks m x.high _ l (lacking_parts m 58 (group_text (x.high % 65536)) _ e (group_lacks m _ (inl l)) (quad_lacks m x.low _ l (group_lacks m _ (inl l))))

pub v6_text_lem : (w : List ℕ) (x : V6) → v6_of w ≡ Some x → v6_fits x × (map to_ascii_lowercase w ≡ v6_text x) × (lacking 44 w ≡ true) × (lacking 45 w ≡ true)
v6_text_lem w x h =
    let p = then_inv (quad_from (pieces_of 58 w)) (λ a. low_from a.0 (quad_from a.1)) x h in
    let q = then_inv (quad_from p.0.1) (λ b. at_end b.1 (record { high = p.0.0; low = b.0 })) x p.2 in
    let n : ℕ = p.0.0 in
    let l : ℕ = q.0.0 in
    let y : V6 = record { high = n; low = l } in
    let done : (q.0.1 ≡ []) × (y ≡ x) = end_inv q.0.1 y x q.2 in
    let i : Quad (pieces_of 58 w) p.0 = quad_inv (pieces_of 58 w) p.0 p.1 in
    let j : Quad p.0.1 q.0 = quad_inv p.0.1 q.0 q.1 in
    let spelt : pieces_of 58 (map to_ascii_lowercase w) ≡ quad_parts n ++ quad_parts l =
    pieces_lower 58 w (omega arith) ∙ i.0 ∙ ap (λ (v : Parts). quad_parts n ++ v) (j.0 ∙ ap (λ (v : Parts). quad_parts l ++ map (map to_ascii_lowercase) v) done.0) in
    let t : map to_ascii_lowercase w ≡ v6_text x = sym (joined_pieces 58 (map to_ascii_lowercase w)) ∙ ap (joined 58) spelt ∙ ap v6_text done.1 in
    let lacks : (m : ℕ) → m < 48 → lacking m w ≡ true =
    λ m s. sym (lacking_lower m w (omega arith)) ∙ ap (lacking m) t ∙ v6_lacks m x s in
    let fits : v6_fits y = (i.1, j.1) in
    (subst v6_fits done.1 fits, t, lacks 44 (omega arith), lacks 45 (omega arith))
