-- Elements as they are wanted by a layout: what was read stands there, and what stands there is read. Assumes nothing.
use Rattle.std.proofs.Common.{◌≡◌, ℕ, suc, ◌+◌, ◌<◌, ◌≤◌, Bool, true, false, cond, eqb, ◌⊎◌, List, [], ◌∷◌, ◌++◌, length, Some, None, Ok, Err, Option, Result, sym, refl, ap, ◌∙◌, subst, inl, inr, arith, length-append}
use Rattle.std.proofs.lemmas.List.{get_or_past, get_or_append_left, get_or-append-add, nil_from_length}
use Rattle.std.proofs.lemmas.Bool.{cases_lt, eq-eqb, ne_eqb, eqb-true, cond-true, cond-false}
use Rattle.std.proofs.lemmas.Bool.Decides.{eqb_tells}
use Rattle.fault.specs.declared.Report.{Report}
use Rattle.fault.specs.declared.Layer.{Layer}
use Rattle.fault.specs.declared.ElementFault.{ElementFault}
use Rattle.content.specs.Tags.{kind_of}
use Rattle.content.specs.Grammar.{ContentOf}
use Rattle.element.specs.Lengths.{longest, header, encoded}
use Rattle.element.specs.Reading.{Seen, Octets, read_of}
use Rattle.element.specs.Grammar.{Begins, Parsed}
use Rattle.element.proofs.Headers.{Octetwise, lengths_short}
use Rattle.element.proofs.Parses.{parsed}
use Rattle.element.proofs.Writes.{read-begun}
use Rattle.layout.specs.Expecting.{then_read, tagged, expect_of, surplus, end_of}
use Rattle.prefixes.specs.Theorems.{Octets as EachOctet}
use Rattle.entries.specs.Addresses.{given, then_some}

-- ---- octets

pub octetwise : (s : List ℕ) → EachOctet s → Octetwise s
octetwise s o k =
    elim (cases_lt k (length s)) [
      | inl h ↦ o k h
      | inr h ↦ (let e = get_or_past s k 0 h in omega arith)
    ]

pub each_front : (xs ys : List ℕ) → EachOctet (xs ++ ys) → EachOctet xs
each_front xs ys o k h =
    let n = length-append xs ys in
    let i : k < length (xs ++ ys) = omega arith in
    let e = get_or_append_left xs ys 0 k h in
    let m = o k i in
    omega arith

pub each_rest : (xs ys : List ℕ) → EachOctet (xs ++ ys) → EachOctet ys
each_rest xs ys o k h =
    let n = length-append xs ys in
    let i : length xs + k < length (xs ++ ys) = omega arith in
    let e = get_or-append-add xs ys k 0 in
    let m = o (length xs + k) i in
    omega arith

pub each_tail : (x : ℕ) (xs : List ℕ) → EachOctet (x ∷ xs) → EachOctet xs
each_tail x xs o k h = o (suc k) (omega arith)

-- ---- one step of a reading and then another

pub then_ok : {V W : Type 0} (r : Result V Report) (k : V → Result W Report) (y : W) → then_read r k ≡ Ok y → (x : V) × (r ≡ Ok x) × (k x ≡ Ok y)
then_ok (Ok v) k y e = (v, refl, e)
then_ok (Err f) k y e = let z : ◌≡◌ {A = ℕ} 0 1 = cc in absurd (omega arith)

pub ok_same : {V E : Type 0} (x y : V) → ◌≡◌ {A = Result V E} (Ok x) (Ok y) → x ≡ y
ok_same x y e = cc

pub given_ok : {V : Type 0} (place : ℕ) (o : Option V) (y : V) → given place o ≡ Ok y → o ≡ Some y
given_ok place (Some x) y e = cc
given_ok place None y e = let z : ◌≡◌ {A = ℕ} 0 1 = cc in absurd (omega arith)

pub then_some_ok : {V W : Type 0} (r : Option V) (k : V → Option W) (y : W) → then_some r k ≡ Some y → (x : V) × (r ≡ Some x) × (k x ≡ Some y)
then_some_ok (Some v) k y e = (v, refl, e)
then_some_ok None k y e = let z : ◌≡◌ {A = ℕ} 0 1 = cc in absurd (omega arith)

pub cond_ok : {V : Type 0} (b : Bool) (x y : V) (f : Report) → cond b (Ok x) (Err f) ≡ Ok y → (b ≡ true) × (x ≡ y)
cond_ok true x y f e = (refl, cc)
cond_ok false x y f e = let z : ◌≡◌ {A = ℕ} 0 1 = cc in absurd (omega arith)

pub cond_some : {V : Type 0} (b : Bool) (o : Option V) (y : V) → cond b o None ≡ Some y → (b ≡ true) × (o ≡ Some y)
cond_some true o y e = (refl, e)
cond_some false o y e = let z : ◌≡◌ {A = ℕ} 0 1 = cc in absurd (omega arith)

-- an element of one tag or of another
pub tag_cases :
    {V : Type 0} (tag t u : ℕ) (x y : Result V Report) (f : Report) (v : V) → cond (eqb tag t) x (cond (eqb tag u) y (Err f)) ≡ Ok v
    → ((tag ≡ t) × (x ≡ Ok v)) ⊎ ((tag ≡ u) × (y ≡ Ok v))
tag_cases tag t u x y f v e =
    elim (eqb_tells tag t) [
      | inl p ↦ inl (p.1, sym (cond-true _ x _ p.0) ∙ e)
      | inr p ↦ (let g = sym (cond-false (eqb tag t) x (cond (eqb tag u) y (Err f)) p.0) ∙ e in elim (eqb_tells tag u) [
        | inl i ↦ inr (i.1, sym (cond-true _ y (Err f) i.0) ∙ g)
        | inr i ↦ (let h : Err f ≡ Ok v = sym (cond-false _ y (Err f) i.0) ∙ g in let z : ◌≡◌ {A = ℕ} 0 1 = cc in absurd (omega arith))
      ])
    ]

-- ---- what was read stands there

pub begun : (s : List ℕ) (at : ℕ) (e : Seen) (q : Octets) → EachOctet s → read_of s at ≡ Ok (e, q) → Begins s e.tag e.content q.octets
begun s at e q o p = (subst (Parsed s at) p (parsed s at (octetwise s o))).0

tag_ok : (l : Layer) (tag : ℕ) (r : Result (Seen × Octets) ElementFault) (p : Seen × Octets) → tagged l tag r ≡ Ok p → (r ≡ Ok p) × (p.0.tag ≡ tag)
tag_ok l tag (Err f) p e = let z : ◌≡◌ {A = ℕ} 0 1 = cc in absurd (omega arith)
tag_ok l tag (Ok x) p e =
    let h = cond_ok (eqb x.0.tag tag) x p _ e in
    (ap Ok h.1, ap (λ (y : Seen × Octets). y.0.tag) (sym h.1) ∙ eqb-true _ _ h.0)

cond_err : {V : Type 0} (b : Bool) (r : Result V Report) (y : V) (f : Report) → cond b (Err f) r ≡ Ok y → r ≡ Ok y
cond_err true r y f e = let z : ◌≡◌ {A = ℕ} 0 1 = cc in absurd (omega arith)
cond_err false r y f e = e

pub expected :
    (l : Layer) (tag : ℕ) (q : Octets) (p : Seen × Octets) → EachOctet q.octets → expect_of l tag q ≡ Ok p → Begins q.octets tag p.0.content p.1.octets
expected l tag q p o e =
    let h = tag_ok l tag (read_of q.octets q.place) p (cond_err _ _ _ _ e) in
    subst (λ (t : ℕ). Begins q.octets t p.0.content p.1.octets) h.1 (begun q.octets q.place p.0 p.1 o h.0)

surplus_err : (l : Layer) (r : Result (Seen × Octets) ElementFault) (u : Unit {0}) → surplus l r ≡ Ok u → ⊥
surplus_err l (Err f) u e = let z : ◌≡◌ {A = ℕ} 0 1 = cc in omega arith
surplus_err l (Ok p) u e = let z : ◌≡◌ {A = ℕ} 0 1 = cc in omega arith

ended_by : (l : Layer) (b : Bool) (r : Result (Seen × Octets) ElementFault) (u : Unit {0}) → cond b (Ok tt) (surplus l r) ≡ Ok u → b ≡ true
ended_by l true r u e = refl
ended_by l false r u e = absurd (surplus_err l r u e)

pub ended : (l : Layer) (q : Octets) (u : Unit {0}) → end_of l q ≡ Ok u → q.octets ≡ []
ended l q u e = nil_from_length q.octets (eqb-true _ _ (ended_by l (eqb (length q.octets) 0) (read_of q.octets q.place) u e))

-- the content of an element is made of octets of the input
pub each_content : (s : List ℕ) (t : ℕ) (c q : List ℕ) → EachOctet s → Begins s t c q → EachOctet c
each_content s t c q o b = each_rest (header t (length c)) c (each_front (encoded t c) q (subst EachOctet b.octets o))

-- and so are those of two elements one after the other
pub each_low : (t : ℕ) (c d : List ℕ) → EachOctet (encoded t c ++ encoded t d) → EachOctet c
each_low t c d o = each_rest (header t (length c)) c (each_front (encoded t c) (encoded t d) o)

pub each_high : (t : ℕ) (c d : List ℕ) → EachOctet (encoded t c ++ encoded t d) → EachOctet d
each_high t c d o = each_rest (header t (length d)) d (each_rest (encoded t c) (encoded t d) o)

-- a short content takes one octet for its length
pub length_short : (t : ℕ) (c : List ℕ) → length c < 128 → length (encoded t c) ≡ 2 + length c
length_short t c h = length-append (header t (length c)) c ∙ ap (λ (x : List ℕ). length (t ∷ x) + length c) (lengths_short (length c) h)

-- ---- what stands there is read

-- the element of this tag and content at a place, and the octets after it
abbrev pub element_at : ℕ → ℕ → List ℕ → Seen
element_at at t c = record { tag = t; place = at; content = c; content_place = at + length (header t (length c)) }

abbrev pub rest_at : ℕ → ℕ → List ℕ → List ℕ → Octets
rest_at at t c q = record { octets = q; place = at + length (encoded t c) }

pub read-text :
    (at t : ℕ) (c q : List ℕ) → length c ≤ longest → ContentOf (kind_of t) c → read_of (encoded t c ++ q) at ≡ Ok (element_at at t c, rest_at at t c q)
read-text at t c q small form =
    let n : length (header t (length c)) + length c ≡ length (encoded t c) = sym (length-append (header t (length c)) c) in
    read-begun (encoded t c ++ q) at t c q (record { octets = refl; short = small; form = form })
    ∙ ap (λ (x : ℕ). Ok (element_at at t c, record { octets = q; place = at + x })) n

tag_read : (l : Layer) (t at : ℕ) (c q : List ℕ) → tagged l t (Ok (element_at at t c, rest_at at t c q)) ≡ Ok (element_at at t c, rest_at at t c q)
tag_read l t at c q = cond-true (eqb t t) _ _ (eq-eqb t t refl)

pub expect-text :
    (l : Layer) (at t : ℕ) (c q : List ℕ) → length c ≤ longest → ContentOf (kind_of t) c
    → expect_of l t record { octets = encoded t c ++ q; place = at } ≡ Ok (element_at at t c, rest_at at t c q)
expect-text l at t c q small form =
    let some : length (encoded t c ++ q) ≡ 0 → ⊥ = λ e. omega arith in
    cond-false (eqb (length (encoded t c ++ q)) 0) _ _ (ne_eqb _ _ some) ∙ ap (tagged l t) (read-text at t c q small form) ∙ tag_read l t at c q
