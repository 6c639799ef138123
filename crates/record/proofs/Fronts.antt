-- What a field or a record that was read says of the octets, and that octets after it change nothing. Assumes nothing.
use Rattle.std.proofs.Common.{◌≡◌, ℕ, suc, ◌+◌, ◌-◌, ◌<◌, ◌≤◌, Bool, true, false, cond, eqb, leb, List, [], ◌∷◌, ◌++◌, length, get_or, take, drop, Some, None, Option, sym, refl, ap, ◌∙◌, arith}
use Rattle.std.proofs.lemmas.List.{length-append, length-drop, take-append-le, drop-append-le, get_or_append_left, take_rest}
use Rattle.std.proofs.lemmas.Bool.{le-leb, leb-true, cond-true, cond-false, ne_eqb, false≢true}
use Rattle.std.specs.List.{IsFirstAndRest}
use Rattle.record.specs.declared.Kind.TheVariants.{Digest, Verdict}
use Rattle.record.specs.Views.{StandsForNone}
use Rattle.record.specs.Format.{Entry, Known, Signed, Front, then_read, length_at, field_of, digest_only, digest_record, verdict_record, record_by, record_of}

pub some_same : {A : Type 0} {a b : A} → Some a ≡ Some b → a ≡ b
some_same e = cc

pub none_some : {A : Type 0} {a : A} → None ≡ Some a → ⊥
none_some {A} {a} e = let z : ◌≡◌ {A = ℕ} 0 1 = cc in omega arith

pub when_some : {A : Type 0} (b : Bool) (x p : A) → cond b (Some x) None ≡ Some p → (b ≡ true) × (p ≡ x)
when_some true x p e = (refl, sym (some_same e))
when_some false x p e = absurd (none_some e)

pub then_some : {A B : Type 0} (o : Option A) (f : A → Option B) (q : B) → then_read o f ≡ Some q → (a : A) × (o ≡ Some a) × (f a ≡ Some q)
then_some (Some a) f q e = (a, refl, e)
then_some None f q e = absurd (none_some e)

pair : {b c d e : List ℕ} → b ≡ c → d ≡ e → ◌≡◌ {A = List ℕ × List ℕ} (b, d) (c, e)
pair {b} {c} {d} {e} p q = ap (λ (x : List ℕ). (x, d)) p ∙ ap (λ (x : List ℕ). (c, x)) q

-- a field whose length is n
pub field_at : (s : List ℕ) (n : ℕ) → length_at s ≡ n → 3 + n ≤ length s → field_of s ≡ Some (take n (drop 3 s), drop (3 + n) s)
field_at s n e h =
    ap (λ (m : ℕ). cond (leb (3 + m) (length s)) (Some (take m (drop 3 s), drop (3 + m) s)) None) e ∙ cond-true _ _ _ (le-leb (3 + n) (length s) h)

pub field_some : (s : List ℕ) (p : List ℕ × List ℕ) → field_of s ≡ Some p → (3 + length_at s ≤ length s) × (p ≡ (take (length_at s) (drop 3 s), drop (3 + length_at s) s))
field_some s p e =
    let w = when_some (leb (3 + length_at s) (length s)) (take (length_at s) (drop 3 s), drop (3 + length_at s) s) p e in
    (leb-true _ _ w.0, w.1)

field_shorter : (s : List ℕ) (p : List ℕ × List ℕ) → field_of s ≡ Some p → length p.1 < length s
field_shorter s p e =
    let w = field_some s p e in
    let h : 3 + length_at s ≤ length s = w.0 in
    let k : length p.1 ≡ length (drop (3 + length_at s) s) = ap (λ (x : List ℕ × List ℕ). length x.1) w.1 in
    omega (arith, length-drop (3 + length_at s) s)

length_extends : (s t : List ℕ) → 3 ≤ length s → length_at (s ++ t) ≡ length_at s
length_extends s t h =
    let a = get_or_append_left s t 0 0 (omega arith) in
    let b = get_or_append_left s t 0 1 (omega arith) in
    let c = get_or_append_left s t 0 2 (omega arith) in
    cc

-- a field that was read is read again where octets follow
pub field_extends : (s t : List ℕ) (p : List ℕ × List ℕ) → field_of s ≡ Some p → field_of (s ++ t) ≡ Some (p.0, p.1 ++ t)
field_extends s t p e =
    let w = field_some s p e in
    let n = length_at s in
    let h : 3 + n ≤ length s = w.0 in
    let same : length_at (s ++ t) ≡ n = length_extends s t (omega arith) in
    let long : 3 + n ≤ length (s ++ t) = omega (arith, length-append s t) in
    let front : take n (drop 3 (s ++ t)) ≡ take n (drop 3 s) =
    ap (take n) (drop-append-le 3 s t (omega arith)) ∙ take-append-le n (drop 3 s) t (omega (arith, length-drop 3 s)) in
    let back : drop (3 + n) (s ++ t) ≡ drop (3 + n) s ++ t = drop-append-le (3 + n) s t h in
    field_at (s ++ t) n same long
    ∙ ap Some (pair front back)
    ∙ ap (λ (x : List ℕ × List ℕ). Some (x.0, x.1 ++ t)) (sym w.1)

digest_shorter : (s : List ℕ) (q : Entry × List ℕ) → digest_record s ≡ Some q → length q.1 < length s
digest_shorter s q e =
    let a = then_some (field_of s) _ q e in
    let b = then_some (field_of a.0.1) _ q a.2 in
    let c = then_some (digest_only b.0.0) _ q b.2 in
    let k : length b.0.1 ≡ length q.1 = ap (λ (x : Entry × List ℕ). length x.1) (some_same c.2) in
    omega (arith, field_shorter s a.0 a.1, field_shorter a.0.1 b.0 b.1)

verdict_shorter : (s : List ℕ) (q : Entry × List ℕ) → verdict_record s ≡ Some q → length q.1 < length s
verdict_shorter s q e =
    let a = then_some (field_of s) _ q e in
    let b = then_some (field_of a.0.1) _ q a.2 in
    let c = then_some (field_of b.0.1) _ q b.2 in
    let k : length c.0.1 ≡ length q.1 = ap (λ (x : Entry × List ℕ). length x.1) (some_same c.2) in
    omega (arith, field_shorter s a.0 a.1, field_shorter a.0.1 b.0 b.1, field_shorter b.0.1 c.0 c.1)

digest_extends : (s t : List ℕ) (q : Entry × List ℕ) → digest_record s ≡ Some q → digest_record (s ++ t) ≡ Some (q.0, q.1 ++ t)
digest_extends s t q e =
    let a = then_some (field_of s) _ q e in
    let o = a.0 in
    let b = then_some (field_of o.1) _ q a.2 in
    let d = b.0 in
    let c = then_some (digest_only d.0) _ q b.2 in
    ap (λ (v : Front (List ℕ)). then_read v (λ o. then_read (field_of o.1) (λ d. then_read (digest_only d.0) (λ x. Some (Known o.0 x, d.1))))) (field_extends s t o a.1)
    ∙ ap (λ (v : Front (List ℕ)). then_read v (λ d. then_read (digest_only d.0) (λ x. Some (Known o.0 x, d.1)))) (field_extends o.1 t d b.1)
    ∙ ap (λ (v : Option (List ℕ)). then_read v (λ x. Some (Known o.0 x, d.1 ++ t))) c.1
    ∙ ap (λ (r : Entry × List ℕ). Some (r.0, r.1 ++ t)) (some_same c.2)

verdict_extends : (s t : List ℕ) (q : Entry × List ℕ) → verdict_record s ≡ Some q → verdict_record (s ++ t) ≡ Some (q.0, q.1 ++ t)
verdict_extends s t q e =
    let a = then_some (field_of s) _ q e in
    let k = a.0 in
    let b = then_some (field_of k.1) _ q a.2 in
    let m = b.0 in
    let c = then_some (field_of m.1) _ q b.2 in
    ap (λ (v : Front (List ℕ)). then_read v (λ k. then_read (field_of k.1) (λ m. then_read (field_of m.1) (λ g. Some (Signed k.0 m.0 g.0, g.1))))) (field_extends s t k a.1)
    ∙ ap (λ (v : Front (List ℕ)). then_read v (λ m. then_read (field_of m.1) (λ g. Some (Signed k.0 m.0 g.0, g.1)))) (field_extends k.1 t m b.1)
    ∙ ap (λ (v : Front (List ℕ)). then_read v (λ g. Some (Signed k.0 m.0 g.0, g.1))) (field_extends m.1 t c.0 c.1)
    ∙ ap (λ (r : Entry × List ℕ). Some (r.0, r.1 ++ t)) (some_same c.2)

-- a record that was read leaves fewer octets
pub record_shorter : (s : List ℕ) (q : Entry × List ℕ) → record_of s ≡ Some q → length q.1 < length s
record_shorter [] q e = absurd (none_some e)
record_shorter (k ∷ s) q e = by_kind (eqb k 0x44) (eqb k 0x59) e
  where
    by_kind : (b c : Bool) → cond b (digest_record s) (cond c (verdict_record s) None) ≡ Some q → length q.1 < suc (length s)
    by_kind true c e = let h = digest_shorter s q e in omega arith
    by_kind false true e = let h = verdict_shorter s q e in omega arith
    by_kind false false e = absurd (none_some e)

-- a record that was read is read again where octets follow
pub record_extends : (s t : List ℕ) (q : Entry × List ℕ) → record_of s ≡ Some q → record_of (s ++ t) ≡ Some (q.0, q.1 ++ t)
record_extends [] t q e = absurd (none_some e)
record_extends (k ∷ s) t q e = by_kind (eqb k 0x44) (eqb k 0x59) e
  where
    by_kind : (b c : Bool) → cond b (digest_record s) (cond c (verdict_record s) None) ≡ Some q → cond b (digest_record (s ++ t)) (cond c (verdict_record (s ++ t)) None) ≡ Some (q.0, q.1 ++ t)
    by_kind true c e = digest_extends s t q e
    by_kind false true e = verdict_extends s t q e
    by_kind false false e = absurd (none_some e)

-- the record of some octets by the kind that stands first
pub record_by_lem : (s : List ℕ) (k : ℕ) → false ≡ eqb (length s) 0 → get_or s 0 0 ≡ k → record_of s ≡ record_by k (take (length s - 1) (drop 1 s))
record_by_lem [] k h e = absurd (false≢true h)
record_by_lem (x ∷ s) k h e = ap (λ (n : ℕ). record_by n s) e ∙ ap (record_by k) (sym (take_rest (x ∷ s) 1))

-- no record begins with an octet that stands for no kind
pub no_record : (s : List ℕ) (k : ℕ) (t : List ℕ) → IsFirstAndRest s k t → StandsForNone k → record_of s ≡ None
no_record s k t e h =
    ap record_of e.0 ∙ cond-false _ _ _ (ne_eqb k 0x44 (λ z. h Digest (sym z))) ∙ cond-false _ _ _ (ne_eqb k 0x59 (λ z. h Verdict (sym z)))
