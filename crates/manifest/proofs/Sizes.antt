-- How many octets an entry takes at least. Assumes nothing.
use Rattle.std.proofs.Common.{◌≡◌, ℕ, ◌+◌, ◌-◌, ◌≤◌, min, Bool, true, false, cond, eqb, List, [], length, take, drop, Ok, Err, Result, sym, refl, ap, ◌∙◌, subst, arith, length-drop, length-take}
use Rattle.std.proofs.lemmas.Bool.{and_parts, leb-true, eqb-true}
use Rattle.std.proofs.lemmas.Bool.Decides.{nat_tests}
use Rattle.fault.specs.declared.Breach.{Breach}
use Rattle.fault.specs.declared.Report.{Report}
use Rattle.fault.specs.declared.ElementFault.{ElementFault}
use Rattle.fault.specs.declared.Rule.TheVariants.{Value}
use Rattle.fault.specs.declared.Layer.TheVariants.{Content}
use Rattle.element.specs.Reading.{Seen, Octets, measured, read_form, read_at, read_of}
use Rattle.layout.specs.Expecting.{then_read, broken, tagged, expect_of, inside}
use Rattle.fields.specs.Fields.{passing, lawful, tested_of, is_whole, is_number20, number20_of, gtime_of, after_first, whole_bits_of}
use Rattle.moment.specs.Times.{generalized_of}
use Rattle.std.specs.Str.{bytes_eq}
use Rattle.names.specs.Tests.{is_bare}
use Rattle.manifest.specs.Manifests.{Opened, Headed, name_of, opened_of, digest_of, sha256, algorithm_of, head_of}

-- ---- what a reading that went well was made of

pub then_parts : {V W : Type 0} (o : Result V Report) (k : V → Result W Report) (w : W) → then_read o k ≡ Ok w → (v : V) × (o ≡ Ok v) × (k v ≡ Ok w)
then_parts (Ok v) k w e = (v, refl, e)
then_parts (Err f) k w e = let z : ◌≡◌ {A = ℕ} 0 1 = cc in absurd (omega arith)

pub cond_passed : {V : Type 0} (t : Bool) (x : Result V Report) (f : Report) (v : V) → cond t x (Err f) ≡ Ok v → (t ≡ true) × (x ≡ Ok v)
cond_passed true x f v e = (refl, e)
cond_passed false x f v e = let z : ◌≡◌ {A = ℕ} 0 1 = cc in absurd (omega arith)

pub cond_failed : {V : Type 0} (t : Bool) (x : Result V Report) (f : Report) (v : V) → cond t (Err f) x ≡ Ok v → x ≡ Ok v
cond_failed true x f v e = let z : ◌≡◌ {A = ℕ} 0 1 = cc in absurd (omega arith)
cond_failed false x f v e = e

ok_same : {V : Type 0} (v w : V) → ◌≡◌ {A = Result V Report} (Ok v) (Ok w) → v ≡ w
ok_same v w e = cc

-- ---- an element takes its content and two octets more

header_sizes : (s : List ℕ) (h : _) → measured s ≡ Ok h → (2 ≤ h.octets) × (h.octets + h.content ≤ length s)
header_sizes s h e = (grind (arith, nat_tests), grind (arith, nat_tests))

-- of an element and the octets after it, as many octets as they have, and two
abbrev sized : Seen × Octets → ℕ
sized p = 2 + (length p.0.content + length p.1.octets)

abbrev content_in : Result (Seen × Octets) ElementFault → List ℕ
content_in (Ok p) = p.0.content
content_in (Err f) = []

abbrev rest_in : Result (Seen × Octets) ElementFault → List ℕ
rest_in (Ok p) = p.1.octets
rest_in (Err f) = []

form_sizes : (s : List ℕ) (at : ℕ) (h : _) (f : Result (Unit {0}) Breach) (p : Seen × Octets) → measured s ≡ Ok h → read_form s at h f ≡ Ok p → sized p ≤ length s
form_sizes s at h (Err b) p m e = let z : ◌≡◌ {A = ℕ} 0 1 = cc in absurd (omega arith)
form_sizes s at h (Ok u) p m e =
    let k = header_sizes s h m in
    let k0 = k.0 in
    let k1 = k.1 in
    let a : length (take h.content (drop h.octets s)) ≡ min h.content (length (drop h.octets s)) = length-take h.content (drop h.octets s) in
    let b : length (drop (h.octets + h.content) s) ≡ length s - (h.octets + h.content) = length-drop (h.octets + h.content) s in
    let i : p.0.content ≡ take h.content (drop h.octets s) = sym (ap content_in e) in
    let j : p.1.octets ≡ drop (h.octets + h.content) s = sym (ap rest_in e) in
    let i' = ap length i in
    let j' = ap length j in
    omega arith

at_sizes : (s : List ℕ) (at : ℕ) (m : Result _ Breach) (p : Seen × Octets) → measured s ≡ m → read_at s at m ≡ Ok p → sized p ≤ length s
at_sizes s at (Err b) p m e = let z : ◌≡◌ {A = ℕ} 0 1 = cc in absurd (omega arith)
at_sizes s at (Ok h) p m e = form_sizes s at h _ p m e

tagged_sizes : (tag : ℕ) (q : Octets) (r : Result (Seen × Octets) ElementFault) (p : Seen × Octets) → read_of q.octets q.place ≡ r → tagged Content tag r ≡ Ok p → sized p ≤ length q.octets
tagged_sizes tag q (Err f) p i e = let z : ◌≡◌ {A = ℕ} 0 1 = cc in absurd (omega arith)
tagged_sizes tag q (Ok r) p i e =
    let w : r ≡ p = ok_same r p (cond_passed (eqb r.0.tag tag) (Ok r) _ p e).1 in
    subst (λ (x : Seen × Octets). sized x ≤ length q.octets) w (at_sizes q.octets q.place (measured q.octets) r refl i)

pub expect_sizes : (tag : ℕ) (q : Octets) (p : Seen × Octets) → expect_of Content tag q ≡ Ok p → sized p ≤ length q.octets
expect_sizes tag q p e = tagged_sizes tag q (read_of q.octets q.place) p refl (cond_failed (eqb (length q.octets) 0) _ _ p e)

-- ---- an entry takes 44 octets

bare_size : (s : List ℕ) → is_bare s ≡ true → 5 ≤ length s
bare_size s e = leb-true 5 (length s) (and_parts _ _ e).0

name_size : (q : Octets) (p : Seen × Octets) → name_of q ≡ Ok p → 7 + length p.1.octets ≤ length q.octets
name_size q p e =
    let t = then_parts (expect_of Content 22 q) _ p e in
    let c = cond_passed (is_bare t.0.0.content) (Ok t.0) _ p t.2 in
    let w : t.0 ≡ p = ok_same t.0 p c.1 in
    let a = bare_size t.0.0.content c.0 in
    let b = expect_sizes 22 q t.0 t.1 in
    subst (λ (x : Seen × Octets). 7 + length x.1.octets ≤ length q.octets) w (omega arith)

pub opened_size : (q : Octets) (a : Opened) → opened_of q ≡ Ok a → 9 + (length a.inner.octets + length a.after.octets) ≤ length q.octets
opened_size q a e =
    let t = then_parts (expect_of Content 48 q) _ a e in
    let u = then_parts (name_of (inside t.0.0)) _ a t.2 in
    let w : record { name = u.0.0; inner = u.0.1; after = t.0.1 } ≡ a = ok_same _ a u.2 in
    let x = expect_sizes 48 q t.0 t.1 in
    let y = name_size (inside t.0.0) u.0 u.1 in
    subst (λ (o : Opened). 9 + (length o.inner.octets + length o.after.octets) ≤ length q.octets) w (omega arith)

bits_size : (q : Octets) (p : Octets × Octets) → whole_bits_of Content q ≡ Ok p → length p.0.octets ≡ 32 → 35 ≤ length q.octets
bits_size q p e n =
    let t = then_parts (tested_of is_whole Content 3 q) _ p e in
    let u = then_parts (expect_of Content 3 q) _ t.0 t.1 in
    let v = then_parts (passing is_whole Content u.0.0) _ t.0 u.2 in
    let c = cond_passed (is_whole u.0.0.content) (Ok (inside u.0.0)) _ v.0 v.1 in
    let i : inside u.0.0 ≡ v.0 = ok_same _ _ c.1 in
    let j : (v.0, u.0.1) ≡ t.0 = ok_same _ _ v.2 in
    let k : (after_first t.0.0, t.0.1) ≡ p = ok_same _ _ t.2 in
    let d : length (drop 1 u.0.0.content) ≡ 32 = ap (λ (x : Octets). length (drop 1 x.octets)) i ∙ ap (λ (x : Octets × Octets). length (drop 1 x.0.octets)) j ∙ ap (λ (x : Octets × Octets). length x.0.octets) k ∙ n in
    let l : length (drop 1 u.0.0.content) ≡ length u.0.0.content - 1 = length-drop 1 u.0.0.content in
    let x = expect_sizes 3 q u.0 u.1 in
    omega arith

pub digest_size : (q d : Octets) → digest_of q ≡ Ok d → 35 ≤ length q.octets
digest_size q d e =
    let t = then_parts (whole_bits_of Content q) _ d e in
    let u = then_parts (cond (eqb (length t.0.0.octets) 32) (Ok t.0) (broken Content Value q.place)) _ d t.2 in
    let c = cond_passed (eqb (length t.0.0.octets) 32) (Ok t.0) _ u.0 u.1 in
    bits_size q t.0 t.1 (eqb-true _ _ c.0)

pub entry_size : (q : Octets) (a : Opened) (d : Octets) → opened_of q ≡ Ok a → digest_of a.inner ≡ Ok d → 44 + length a.after.octets ≤ length q.octets
entry_size q a d e f =
    let x = opened_size q a e in
    let y = digest_size a.inner d f in
    omega arith

-- ---- what follows the elements of a manifest is no longer than what they were read from

tested_size : (test : List ℕ → Bool) (tag : ℕ) (q : Octets) (p : Octets × Octets) → tested_of test Content tag q ≡ Ok p → length p.1.octets ≤ length q.octets
tested_size test tag q p e =
    let t = then_parts (expect_of Content tag q) _ p e in
    let u = then_parts (passing test Content t.0.0) _ p t.2 in
    let w : (u.0, t.0.1) ≡ p = ok_same _ p u.2 in
    let x = expect_sizes tag q t.0 t.1 in
    subst (λ (y : Octets × Octets). length y.1.octets ≤ length q.octets) w (omega arith)

gtime_size : (q : Octets) (p : ℕ × Octets) → gtime_of Content q ≡ Ok p → length p.1.octets ≤ length q.octets
gtime_size q p e =
    let t = then_parts (expect_of Content 24 q) _ p e in
    let u = then_parts (lawful Content t.0.0.place (generalized_of t.0.0.content)) _ p t.2 in
    let w : (u.0, t.0.1) ≡ p = ok_same _ p u.2 in
    let x = expect_sizes 24 q t.0 t.1 in
    subst (λ (y : ℕ × Octets). length y.1.octets ≤ length q.octets) w (omega arith)

algorithm_size : (q p : Octets) → algorithm_of q ≡ Ok p → length p.octets ≤ length q.octets
algorithm_size q p e =
    let t = then_parts (expect_of Content 6 q) _ p e in
    let c = cond_passed (bytes_eq t.0.0.content sha256) (Ok t.0.1) _ p t.2 in
    let w : t.0.1 ≡ p = ok_same _ p c.1 in
    let x = expect_sizes 6 q t.0 t.1 in
    subst (λ (y : Octets). length y.octets ≤ length q.octets) w (omega arith)

head_size : (q : Octets) (p : Headed × Octets) → head_of q ≡ Ok p → length p.1.octets ≤ length q.octets
head_size q p e =
    let n = then_parts (number20_of Content q) _ p e in
    let t = then_parts (gtime_of Content n.0.1) _ p n.2 in
    let u = then_parts (gtime_of Content t.0.1) _ p t.2 in
    let r = then_parts (algorithm_of u.0.1) _ p u.2 in
    let w : (record { number = n.0.0; issued = t.0.0; due = u.0.0 }, r.0) ≡ p = ok_same _ p r.2 in
    let a = tested_size is_number20 2 q n.0 n.1 in
    let b = gtime_size n.0.1 t.0 t.1 in
    let c = gtime_size t.0.1 u.0 u.1 in
    let d = algorithm_size u.0.1 r.0 r.1 in
    subst (λ (y : Headed × Octets). length y.1.octets ≤ length q.octets) w (omega arith)

-- a content is no longer than what its element was read from
pub content_size : (tag : ℕ) (q : Octets) (p : Seen × Octets) (m : ℕ) → Ok p ≡ expect_of Content tag q → length q.octets ≤ m → length p.0.content ≤ m
content_size tag q p m e l = let x = expect_sizes tag q p (sym e) in omega arith

-- nor is that of the row of entries than the manifest
pub row_size : (q : Octets) (h : Headed × Octets) (p : Seen × Octets) (m : ℕ) → Ok h ≡ head_of q → Ok p ≡ expect_of Content 48 h.1 → length q.octets ≤ m → length p.0.content ≤ m
row_size q h p m e f l = let x = head_size q h (sym e) in content_size 48 h.1 p m f (omega arith)
