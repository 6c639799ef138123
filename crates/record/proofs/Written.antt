-- What was written is read, and what was read is what stands there. Assumes nothing.
use Rattle.std.proofs.Common.{◌≡◌, ℕ, ◌+◌, ◌*◌, ◌/◌, ◌%◌, ◌^◌, ◌<◌, ◌≤◌, eqb, ◌⊎◌, List, [], ◌∷◌, ◌++◌, length, take, drop, Some, Option, sym, refl, ap, ◌∙◌, subst, inl, inr, append_assoc, append-nil, arith}
use Rattle.std.specs.List.{AllByRecursion}
use Rattle.std.proofs.ByRecursion.{All-drop}
use Rattle.std.proofs.lemmas.List.{length-append, length-drop, length-take-le, take_at, drop_at, take-append-drop, drop-drop}
use Rattle.std.proofs.lemmas.Bool.{eq-eqb, ne_eqb, eqb-true, cond-true, cond-false, cases_eq}
use Rattle.record.specs.Format.{Entry, Known, Signed, Front, then_read, length_at, field_of, digest_only, digest_record, verdict_record, record_by, record_of, records, leftover, Whole}
use Rattle.record.specs.Writing.{length_octets, field_octets, record_octets, book_of, Writable}
use Rattle.record.specs.Promises.{AppendedOctetsKeepRecords, AppendedRecordIsTheLast, BookIsItsRecords, WrittenRecordsAreRead, LeftoverSaysNothing}
use Rattle.record.proofs.Fronts.{some_same, none_some, then_some, when_some, field_at, field_some}
use Rattle.record.proofs.Steps.{by_records, records_some, records_none, leftover_some, leftover_none, records_append, leftover_append, leftover_ends}

pair : {b c d e : List ℕ} → b ≡ c → d ≡ e → ◌≡◌ {A = List ℕ × List ℕ} (b, d) (c, e)
pair {b} {c} {d} {e} p q = ap (λ (x : List ℕ). (x, d)) p ∙ ap (λ (x : List ℕ). (c, x)) q

-- a written field is read again
pub field_written : (f t : List ℕ) → length f < 2 ^ 24 → field_of (field_octets f ++ t) ≡ Some (f, t)
field_written f t h =
    let n = length f in
    let size : n / 0x10000 * 0x10000 + n / 0x100 % 0x100 * 0x100 + n % 0x100 ≡ n = omega arith in
    let all : 3 + n ≤ length (field_octets f ++ t) = omega (arith, length-append f t) in
    let back : drop (3 + n) (field_octets f ++ t) ≡ t = drop_at (field_octets f) t (3 + n) (omega arith) in
    field_at (field_octets f ++ t) n size all ∙ ap Some (pair (take_at f t n refl) back)

digest_written : (d : List ℕ) → length d ≡ 32 → digest_only d ≡ Some d
digest_written d e = cond-true _ _ _ (eq-eqb (length d) 32 e)

-- a written record is read again
pub record_written : (r : Entry) (t : List ℕ) → Writable r → record_of (record_octets r ++ t) ≡ Some (r, t)
record_written (Known o d) t h =
    let small : length d < 2 ^ 24 = omega (arith, h.1) in
    ap digest_record (append_assoc (field_octets o) (field_octets d) t)
    ∙ ap (λ (v : Front (List ℕ)). then_read v (λ o. then_read (field_of o.1) (λ d. then_read (digest_only d.0) (λ x. Some (Known o.0 x, d.1))))) (field_written o (field_octets d ++ t) h.0)
    ∙ ap (λ (v : Front (List ℕ)). then_read v (λ d. then_read (digest_only d.0) (λ x. Some (Known o x, d.1)))) (field_written d t small)
    ∙ ap (λ (v : Option (List ℕ)). then_read v (λ x. Some (Known o x, t))) (digest_written d h.1)
record_written (Signed k m g) t h =
    ap verdict_record (append_assoc (field_octets k) (field_octets m ++ field_octets g) t)
    ∙ ap (λ (v : Front (List ℕ)). then_read v (λ k. then_read (field_of k.1) (λ m. then_read (field_of m.1) (λ g. Some (Signed k.0 m.0 g.0, g.1))))) (field_written k ((field_octets m ++ field_octets g) ++ t) h.0)
    ∙ ap (λ (l : List ℕ). then_read (field_of l) (λ m. then_read (field_of m.1) (λ g. Some (Signed k m.0 g.0, g.1)))) (append_assoc (field_octets m) (field_octets g) t)
    ∙ ap (λ (v : Front (List ℕ)). then_read v (λ m. then_read (field_of m.1) (λ g. Some (Signed k m.0 g.0, g.1)))) (field_written m (field_octets g ++ t) h.1)
    ∙ ap (λ (v : Front (List ℕ)). then_read v (λ g. Some (Signed k m g.0, g.1))) (field_written g t h.2)

pub records_empty : records [] ≡ []
records_empty = records_none [] refl

pub leftover_empty : leftover [] ≡ []
leftover_empty = leftover_none [] refl

pub appended_octets : AppendedOctetsKeepRecords
appended_octets book more = records_append more book

one_record : (r : Entry) → Writable r → (records (record_octets r) ≡ r ∷ []) × (leftover (record_octets r) ≡ [])
one_record r h =
    let e : record_of (record_octets r) ≡ Some (r, []) = ap record_of (sym (append-nil (record_octets r))) ∙ record_written r [] h in (
      records_some (record_octets r) (r, []) e ∙ ap (λ (l : List Entry). r ∷ l) records_empty,
      leftover_some (record_octets r) (r, []) e ∙ leftover_empty,
    )

pub appended_record : AppendedRecordIsTheLast
appended_record book r h whole =
    let one = one_record r h in
    let at : leftover book ++ record_octets r ≡ record_octets r = ap (λ (l : List ℕ). l ++ record_octets r) whole in (
      records_append (record_octets r) book ∙ ap (λ (l : List ℕ). records book ++ records l) at ∙ ap (λ (l : List Entry). records book ++ l) one.0,
      leftover_append (record_octets r) book ∙ ap leftover at ∙ one.1,
    )

pub written_read : WrittenRecordsAreRead
written_read [] more h = refl
written_read (r ∷ rs) more h =
    ap records (append_assoc (record_octets r) (book_of rs) more)
    ∙ records_some (record_octets r ++ (book_of rs ++ more)) (r, book_of rs ++ more) (record_written r (book_of rs ++ more) h.0)
    ∙ ap (λ (l : List Entry). r ∷ l) (written_read rs more h.1)

-- three octets are the length that they write
three_octets : (s : List ℕ) → 3 ≤ length s → AllByRecursion (λ x. x < 0x100) s → s ≡ length_octets (length_at s) ++ drop 3 s
three_octets [] h o = absurd (omega arith)
three_octets (a ∷ []) h o = absurd (omega arith)
three_octets (a ∷ (b ∷ [])) h o = absurd (omega arith)
three_octets (a ∷ (b ∷ (c ∷ s))) h o =
    let n = a * 0x10000 + b * 0x100 + c in
    let p : a < 0x100 = o.0 in
    let q : b < 0x100 = o.1.0 in
    let r : c < 0x100 = o.1.1.0 in
    let x : a ≡ n / 0x10000 = omega arith in
    let y : b ≡ n / 0x100 % 0x100 = omega arith in
    let z : c ≡ n % 0x100 = omega arith in
    ap (λ (v : ℕ). v ∷ (b ∷ (c ∷ s))) x ∙ ap (λ (v : ℕ). n / 0x10000 ∷ (v ∷ (c ∷ s))) y ∙ ap (λ (v : ℕ). n / 0x10000 ∷ (n / 0x100 % 0x100 ∷ (v ∷ s))) z

-- what three octets write is below 2^24
length_small : (s : List ℕ) → 3 ≤ length s → AllByRecursion (λ x. x < 0x100) s → length_at s < 2 ^ 24
length_small [] h o = absurd (omega arith)
length_small (a ∷ []) h o = absurd (omega arith)
length_small (a ∷ (b ∷ [])) h o = absurd (omega arith)
length_small (a ∷ (b ∷ (c ∷ s))) h o =
    let p : a < 0x100 = o.0 in
    let q : b < 0x100 = o.1.0 in
    let r : c < 0x100 = o.1.1.0 in
    omega arith

-- octets that are read as a field are the field's octets and the rest, and the field can be written
field_stands : (s : List ℕ) (p : List ℕ × List ℕ) → AllByRecursion (λ x. x < 0x100) s → field_of s ≡ Some p → (s ≡ field_octets p.0 ++ p.1) × AllByRecursion (λ x. x < 0x100) p.1 × (length p.0 < 2 ^ 24)
field_stands s p o e =
    let w = field_some s p e in
    let n = length_at s in
    let f = take n (drop 3 s) in
    let h : 3 + n ≤ length s = w.0 in
    let size : length f ≡ n = length-take-le n (drop 3 s) (omega (arith, length-drop 3 s)) in
    let stands : s ≡ field_octets f ++ drop (3 + n) s =
    three_octets s (omega arith) o
    ∙ ap (λ (l : List ℕ). length_octets n ++ l) (sym (take-append-drop n (drop 3 s)) ∙ ap (λ (l : List ℕ). f ++ l) (drop-drop n 3 s))
    ∙ ap (λ (m : ℕ). length_octets m ++ (f ++ drop (3 + n) s)) (sym size) in (
      stands ∙ ap (λ (x : List ℕ × List ℕ). field_octets x.0 ++ x.1) (sym w.1),
      subst (λ (x : List ℕ × List ℕ). AllByRecursion (λ y. y < 0x100) x.1) (sym w.1) (All-drop (λ y. y < 0x100) (3 + n) s o),
      (let same : length p.0 ≡ length f = ap (λ (x : List ℕ × List ℕ). length x.0) w.1 in omega (arith, length_small s (omega arith) o)),
    )

-- octets that are read as a record are the record's octets and the rest, and the record can be written
record_stands : (s : List ℕ) (q : Entry × List ℕ) → AllByRecursion (λ x. x < 0x100) s → record_of s ≡ Some q → (s ≡ record_octets q.0 ++ q.1) × AllByRecursion (λ x. x < 0x100) q.1 × Writable q.0
record_stands [] q o e = absurd (none_some e)
record_stands (k ∷ s) q o e = by_kind k (cases_eq k 0x44) (cases_eq k 0x59) e
  where
    digest_stands : digest_record s ≡ Some q → (0x44 ∷ s ≡ record_octets q.0 ++ q.1) × AllByRecursion (λ x. x < 0x100) q.1 × Writable q.0
    digest_stands e =
        let a = then_some (field_of s) _ q e in
        let v = field_stands s a.0 o.1 a.1 in
        let b = then_some (field_of a.0.1) _ q a.2 in
        let w = field_stands a.0.1 b.0 v.1 b.1 in
        let c = then_some (digest_only b.0.0) _ q b.2 in
        let d = when_some (eqb (length b.0.0) 32) b.0.0 c.0 c.1 in
        let r : (Known a.0.0 b.0.0, b.0.1) ≡ q = ap (λ (x : List ℕ). (Known a.0.0 x, b.0.1)) (sym d.1) ∙ some_same c.2 in (
          ap (λ (l : List ℕ). 0x44 ∷ l) (v.0 ∙ ap (λ (l : List ℕ). field_octets a.0.0 ++ l) w.0 ∙ sym (append_assoc (field_octets a.0.0) (field_octets b.0.0) b.0.1))
              ∙ ap (λ (x : Entry × List ℕ). record_octets x.0 ++ x.1) r,
          subst (λ (x : Entry × List ℕ). AllByRecursion (λ y. y < 0x100) x.1) r w.1,
          subst (λ (x : Entry × List ℕ). Writable x.0) r (v.2, eqb-true _ _ d.0),
        )

    verdict_stands : verdict_record s ≡ Some q → (0x59 ∷ s ≡ record_octets q.0 ++ q.1) × AllByRecursion (λ x. x < 0x100) q.1 × Writable q.0
    verdict_stands e =
        let a = then_some (field_of s) _ q e in
        let v = field_stands s a.0 o.1 a.1 in
        let b = then_some (field_of a.0.1) _ q a.2 in
        let w = field_stands a.0.1 b.0 v.1 b.1 in
        let c = then_some (field_of b.0.1) _ q b.2 in
        let u = field_stands b.0.1 c.0 w.1 c.1 in
        let r : (Signed a.0.0 b.0.0 c.0.0, c.0.1) ≡ q = some_same c.2 in
        let ka = field_octets a.0.0 in
        let kb = field_octets b.0.0 in
        let kc = field_octets c.0.0 in (
          ap (λ (l : List ℕ). 0x59 ∷ l) (v.0 ∙ ap (λ (l : List ℕ). ka ++ l) (w.0 ∙ ap (λ (l : List ℕ). kb ++ l) u.0 ∙ sym (append_assoc kb kc c.0.1)) ∙ sym (append_assoc ka (kb ++ kc) c.0.1))
              ∙ ap (λ (x : Entry × List ℕ). record_octets x.0 ++ x.1) r,
          subst (λ (x : Entry × List ℕ). AllByRecursion (λ y. y < 0x100) x.1) r u.1,
          subst (λ (x : Entry × List ℕ). Writable x.0) r (v.2, w.2, u.2),
        )

    by_kind : (k : ℕ) → (k ≡ 0x44) ⊎ (k ≡ 0x44 → ⊥) → (k ≡ 0x59) ⊎ (k ≡ 0x59 → ⊥) → record_by k s ≡ Some q → (k ∷ s ≡ record_octets q.0 ++ q.1) × AllByRecursion (λ x. x < 0x100) q.1 × Writable q.0
    by_kind k (inl x) y e =
        subst (λ (n : ℕ). (n ∷ s ≡ record_octets q.0 ++ q.1) × AllByRecursion (λ x. x < 0x100) q.1 × Writable q.0) (sym x) (digest_stands (sym (ap (λ (n : ℕ). record_by n s) x) ∙ e))
    by_kind k (inr x) (inl y) e =
        subst (λ (n : ℕ). (n ∷ s ≡ record_octets q.0 ++ q.1) × AllByRecursion (λ x. x < 0x100) q.1 × Writable q.0) (sym y) (verdict_stands (sym (ap (λ (n : ℕ). record_by n s) y) ∙ e))
    by_kind k (inr x) (inr y) e =
        absurd (none_some (sym (cond-false _ _ _ (ne_eqb k 0x44 x) ∙ cond-false _ _ _ (ne_eqb k 0x59 y)) ∙ e))

pub book_is : BookIsItsRecords
book_is book o = (stands book o, leftover_ends book)
  where
    stands : (s : List ℕ) → AllByRecursion (λ x. x < 0x100) s → s ≡ book_of (records s) ++ leftover s
    stands =
        by_records (λ s. AllByRecursion (λ x. x < 0x100) s → s ≡ book_of (records s) ++ leftover s)
        (λ s e o. sym (ap (λ (l : List Entry). book_of l ++ leftover s) (records_none s e) ∙ leftover_none s e))
        (λ s q e ih o.
        let h = record_stands s q o e in
        h.0
        ∙ ap (λ (l : List ℕ). record_octets q.0 ++ l) (ih h.1)
        ∙ sym (append_assoc (record_octets q.0) (book_of (records q.1)) (leftover q.1))
        ∙ sym (ap (λ (l : List Entry). book_of l ++ leftover s) (records_some s q e) ∙ ap (λ (l : List ℕ). book_of (q.0 ∷ records q.1) ++ l) (leftover_some s q e)))

-- records that were read can be written
all_writable : (s : List ℕ) → AllByRecursion (λ x. x < 0x100) s → AllByRecursion Writable (records s)
all_writable =
    by_records (λ s. AllByRecursion (λ x. x < 0x100) s → AllByRecursion Writable (records s))
    (λ s e o. subst (λ (l : List Entry). AllByRecursion Writable l) (sym (records_none s e)) tt)
    (λ s q e ih o. let h = record_stands s q o e in subst (λ (l : List Entry). AllByRecursion Writable l) (sym (records_some s q e)) (h.2, ih h.1))

written_whole : (rs : List Entry) → AllByRecursion Writable rs → Whole (book_of rs)
written_whole [] h = leftover_empty
written_whole (r ∷ rs) h =
    leftover_some (record_octets r ++ book_of rs) (r, book_of rs) (record_written r (book_of rs) h.0) ∙ written_whole rs h.1

pub leftover_silent : LeftoverSaysNothing
leftover_silent book o =
    let w = all_writable book o in
    let again : records (book_of (records book) ++ []) ≡ records book ++ records [] = written_read (records book) [] w in (
      ap records (sym (append-nil (book_of (records book)))) ∙ again ∙ ap (λ (l : List Entry). records book ++ l) records_empty ∙ append-nil (records book),
      written_whole (records book) w,
    )
