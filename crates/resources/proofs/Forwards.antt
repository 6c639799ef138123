-- That no entry says an empty range, at each kind of points. Assumes nothing.
use Rattle.std.proofs.Common.{◌≡◌, ℕ, ◌-◌, ◌^◌, ◌<◌, ◌≤◌, Bool, true, false, cond, not, ◌&&◌, eqb, ltb, List, Some, None, Ok, Err, Option, Result, sym, refl, subst, arith, pow_pos}
use Rattle.std.proofs.lemmas.Bool.{and_parts, ltb-true}
use Rattle.fault.specs.declared.Rule.TheVariants.{Structure, Value}
use Rattle.fault.specs.declared.Layer.TheVariants.{Set}
use Rattle.fault.specs.declared.Report.{Report}
use Rattle.content.specs.Values.{bits_of}
use Rattle.element.specs.Reading.{Seen, Octets}
use Rattle.layout.specs.Expecting.{broken, expect_of, end_of}
use Rattle.prefixes.specs.Reading.{readable, low_of, high_of, low_end, high_end, bit_count}
use Rattle.prefixes.specs.Ranges.{one_prefix}
use Rattle.points.specs.Ranks.{v4_rank, v6_rank, asn_rank, v6_of}
use Rattle.ranges.specs.declared.Range.{Range}
use Rattle.entries.specs.Addresses.{then_some, given, prefix_ends, low_half, high_half, is_range, halves_of, pair_of, inside, address_entry}
use Rattle.entries.specs.Numbers.{as_number, ascend, numbers_of, number_pair, alone, number_entry}
use Rattle.entries.specs.Kinds.{v4_of, asn_of, between, v4_entry, v6_entry, asn_entry}
use Rattle.resources.proofs.Steps.{then_ok, cond_ok}
use Rattle.resources.proofs.Rows.{Forward}

given_ok : {X : Type 0} (place : ℕ) (o : Option X) (x : X) → Ok x ≡ given place o → o ≡ Some x
given_ok place None x e = absurd cc
given_ok place (Some y) x e = cc

some_ok : {X Y : Type 0} (o : Option X) (k : X → Option Y) (y : Y) → then_some o k ≡ Some y → (x : X) × (o ≡ Some x) × (k x ≡ Some y)
some_ok None k y e = absurd cc
some_ok (Some x) k y e = (x, refl, e)

cond_some : {X : Type 0} (b : Bool) (x y : X) → cond b (Some x) None ≡ Some y → y ≡ x
cond_some true x y e = cc
cond_some false x y e = absurd cc

-- a prefix ends where it begins or later
high_past : (w : ℕ) (o : List ℕ) (u : ℕ) → low_of w o ≤ high_of w o u
high_past w o u = let p : 0 < 2 ^ (w - bit_count o u) = pow_pos _ in omega arith

prefix_forward : (w : ℕ) (b : List ℕ × ℕ) (p : ℕ × ℕ) → prefix_ends w b ≡ Some p → p.0 ≤ p.1
prefix_forward w b p e =
    let l = some_ok (low_end w b.0 b.1) (λ a. then_some (high_end w b.0 b.1) (λ z. Some (a, z))) p e in
    let h = some_ok (high_end w b.0 b.1) (λ z. Some (l.0, z)) p l.2 in
    let low = cond_some (readable w b.0 b.1) (low_of w b.0) l.0 l.1 in
    let high = cond_some (readable w b.0 b.1) (high_of w b.0 b.1) h.0 h.1 in
    let k = h.2 in
    let i : (l.0, h.0) ≡ p = cc in
    let m = high_past w b.0 b.1 in
    subst (λ (x : ℕ × ℕ). x.0 ≤ x.1) i (omega arith)

-- a range of two halves ends past where it begins
halves_forward : (w : ℕ) (q : Octets) (h : ℕ × ℕ × Octets) → Ok h ≡ halves_of w q → h.0 < h.1
halves_forward w q h e =
    let a = then_ok (expect_of Set 3 q) _ h e in
    let b = then_ok (given a.0.0.place (then_some (bits_of a.0.0.content) (low_half w))) _ h a.2 in
    let c = then_ok (expect_of Set 3 a.0.1) _ h b.2 in
    let d = then_ok (given c.0.0.place (then_some (bits_of c.0.0.content) (high_half w))) _ h c.2 in
    let f = then_ok (is_range w c.0.0.place b.0 d.0) _ h d.2 in
    let t = cond_ok (ltb b.0 d.0 && not (one_prefix w b.0 d.0)) Set Value c.0.0.place (Ok tt) tt (sym f.1) in
    let l : b.0 < d.0 = ltb-true _ _ (and_parts _ _ t.0).0 in
    let k = f.2 in
    let i : h ≡ (b.0, d.0, c.0.1) = cc in
    subst (λ (x : ℕ × ℕ × Octets). x.0 < x.1) (sym i) l

pair_forward : (w : ℕ) (q : Octets) (p : ℕ × ℕ) → Ok p ≡ pair_of w q → p.0 ≤ p.1
pair_forward w q p e =
    let a = then_ok (halves_of w q) _ p e in
    let b = then_ok (end_of Set a.0.2) _ p a.2 in
    let l = halves_forward w q a.0 (sym a.1) in
    let k = b.2 in
    let i : p ≡ (a.0.0, a.0.1) = cc in
    subst (λ (x : ℕ × ℕ). x.0 ≤ x.1) (sym i) (omega arith)

-- an answer by the tag: what holds of both alternatives holds of it
by-tag :
    (three seq : Bool) (x y : Result (ℕ × ℕ) Report) (place : ℕ) (p : ℕ × ℕ)
    → (Ok p ≡ x → p.0 ≤ p.1) → (Ok p ≡ y → p.0 ≤ p.1)
    → Ok p ≡ cond three x (cond seq y (broken Set Structure place)) → p.0 ≤ p.1
by-tag true seq x y place p f g e = f e
by-tag false true x y place p f g e = g e
by-tag false false x y place p f g e = absurd cc

address_forward : (w : ℕ) (e : Seen) (p : ℕ × ℕ) → Ok p ≡ address_entry w e → p.0 ≤ p.1
address_forward w e p h =
    by-tag (eqb e.tag 3) (eqb e.tag 48) (given e.place (then_some (bits_of e.content) (prefix_ends w))) (pair_of w (inside e)) e.place p
    (λ i.
    let s = some_ok (bits_of e.content) (prefix_ends w) p (given_ok e.place (then_some (bits_of e.content) (prefix_ends w)) p i) in
    prefix_forward w s.0 p s.2)
    (pair_forward w (inside e) p)
    h

numbers_forward : (q : Octets) (h : ℕ × ℕ × Octets) → Ok h ≡ numbers_of q → h.0 < h.1
numbers_forward q h e =
    let a = then_ok (expect_of Set 2 q) _ h e in
    let b = then_ok (given a.0.0.place (as_number a.0.0.content)) _ h a.2 in
    let c = then_ok (expect_of Set 2 a.0.1) _ h b.2 in
    let d = then_ok (given c.0.0.place (as_number c.0.0.content)) _ h c.2 in
    let f = then_ok (ascend c.0.0.place b.0 d.0) _ h d.2 in
    let t = cond_ok (ltb b.0 d.0) Set Value c.0.0.place (Ok tt) tt (sym f.1) in
    let l : b.0 < d.0 = ltb-true _ _ t.0 in
    let k = f.2 in
    let i : h ≡ (b.0, d.0, c.0.1) = cc in
    subst (λ (x : ℕ × ℕ × Octets). x.0 < x.1) (sym i) l

number_pair_forward : (q : Octets) (p : ℕ × ℕ) → Ok p ≡ number_pair q → p.0 ≤ p.1
number_pair_forward q p e =
    let a = then_ok (numbers_of q) _ p e in
    let b = then_ok (end_of Set a.0.2) _ p a.2 in
    let l = numbers_forward q a.0 (sym a.1) in
    let k = b.2 in
    let i : p ≡ (a.0.0, a.0.1) = cc in
    subst (λ (x : ℕ × ℕ). x.0 ≤ x.1) (sym i) (omega arith)

alone_forward : (r : Result ℕ Report) (p : ℕ × ℕ) → Ok p ≡ alone r → p.0 ≤ p.1
alone_forward r p e =
    let a = then_ok r _ p e in
    let k = a.2 in
    let i : p ≡ (a.0, a.0) = cc in
    subst (λ (x : ℕ × ℕ). x.0 ≤ x.1) (sym i) (omega arith)

number_forward : (e : Seen) (p : ℕ × ℕ) → Ok p ≡ number_entry e → p.0 ≤ p.1
number_forward e p h =
    by-tag (eqb e.tag 2) (eqb e.tag 48) (alone (given e.place (as_number e.content))) (number_pair (inside e)) e.place p
    (alone_forward (given e.place (as_number e.content)) p)
    (number_pair_forward (inside e) p)
    h

-- the points of a range whose numbers ascend, where the point of a number has that number
between-forward :
    {P : Type 0} (rank : P → ℕ) (point : ℕ → P) → ((n : ℕ) → rank (point n) ≡ n) → (x : Result (ℕ × ℕ) Report)
    → ((p : ℕ × ℕ) → Ok p ≡ x → p.0 ≤ p.1) → (r : Range P) → between point x ≡ Ok r → rank r.first ≤ rank r.last
between-forward rank point is (Ok p) f r e =
    let l = f p refl in
    let a = is p.0 in
    let z = is p.1 in
    let first : r.first ≡ point p.0 = cc in
    let last : r.last ≡ point p.1 = cc in
    rw (first, last, a, z) l
between-forward rank point is (Err g) f r e = absurd cc

pub v4_forward : Forward v4_rank v4_entry
v4_forward e r h = between-forward v4_rank v4_of (λ n. refl) (address_entry 32 e) (address_forward 32 e) r h

v6_is : (n : ℕ) → v6_rank (v6_of n) ≡ n
v6_is n = omega arith

pub v6_forward : Forward v6_rank v6_entry
v6_forward e r h = between-forward v6_rank v6_of v6_is (address_entry 128 e) (address_forward 128 e) r h

pub asn_forward : Forward asn_rank asn_entry
asn_forward e r h = between-forward asn_rank asn_of (λ n. refl) (number_entry e) (number_forward e) r h
