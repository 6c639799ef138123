-- Filling a table reads the families, and keeps the table and what stands past them. Assumes nothing.
use Rattle.std.proofs.Common.{◌≡◌, ℕ, zero, suc, ◌+◌, ◌-◌, ◌≤◌, Bool, true, false, cond, eqb, List, [], ◌∷◌, ◌++◌, length, take, drop, Ok, Err, Option, Result, sym, refl, ap, ◌∙◌, arith, length-append, IfOk}
use Rattle.std.proofs.lemmas.List.{drop-drop, length-take-le}
use Rattle.fault.specs.declared.Rule.TheVariants.{Structure}
use Rattle.fault.specs.declared.Layer.TheVariants.{Content}
use Rattle.fault.specs.declared.Report.{Report}
use Rattle.fault.specs.declared.ElementFault.{ElementFault}
use Rattle.family.specs.declared.Family.{Family}
use Rattle.element.specs.Reading.{Seen, Octets, read_of}
use Rattle.layout.specs.Expecting.{broken, then_read, expect_of, end_of, inside}
use Rattle.layout.specs.Rows.{on_row, rows_within, rows_of}
use Rattle.families.specs.Families.{family_after}
use Rattle.roa.specs.declared.RoaRow.{RoaRow}
use Rattle.roa.specs.Rows.{row_in, row_step, some_rows}
use Rattle.roa.specs.Roas.{Known, family_rows, family_in, family_step}
use Rattle.roa.specs.Gathering.{Gathered, gathered, gather_step}

-- ---- reading takes no row away

after_read :
    {V W : Type 0} (P : V → Type 0) (Q : W → Type 0) (o : Result V Report) (k : V → Result W Report)
    → IfOk o P → ((v : V) → P v → IfOk (k v) Q) → IfOk (then_read o k) Q
after_read P Q (Ok v) k h f = f v h
after_read P Q (Err e) k h f = tt

any_read : {V : Type 0} (o : Result V Report) → IfOk o (λ _. Unit {0})
any_read (Ok v) = tt
any_read (Err e) = tt

either_read : {W : Type 0} (Q : W → Type 0) (b : Bool) (x y : Result W Report) → IfOk x Q → IfOk y Q → IfOk (cond b x y) Q
either_read Q true x y h k = h
either_read Q false x y h k = k

abbrev Longer : List RoaRow → List RoaRow → Type 0
Longer xs ys = length xs ≤ length ys

row_longer : (xs : List RoaRow) (o : Result RoaRow Report) → IfOk (then_read o (λ r. Ok (xs ++ (r ∷ [])))) (Longer xs)
row_longer xs (Ok r) = omega (arith, length-append xs (r ∷ []))
row_longer xs (Err e) = tt

longer_by : (xs ys : List RoaRow) (o : Result (List RoaRow) Report) → Longer xs ys → IfOk o (Longer ys) → IfOk o (Longer xs)
longer_by xs ys (Ok zs) h k = omega (arith, h, k)
longer_by xs ys (Err e) h k = tt

module _ (f : Family) (base : ℕ) where
  element_longer :
      (n : ℕ) → ((xs : List RoaRow) (q : Octets) → IfOk (rows_within (row_step f base) n xs q) (Longer xs))
      → (xs : List RoaRow) (o : Result (Seen × Octets) ElementFault) → IfOk (on_row (row_step f base) (rows_within (row_step f base) n) xs o) (Longer xs)
  element_longer n more xs (Err e) = tt
  element_longer n more xs (Ok p) =
      after_read (Longer xs) (Longer xs) (row_step f base xs p.0) (λ ys. rows_within (row_step f base) n ys p.1) (row_longer xs (row_in f (length xs - base) p.0))
      (λ ys h. longer_by xs ys (rows_within (row_step f base) n ys p.1) h (more ys p.1))

  within_longer : (n : ℕ) (xs : List RoaRow) (q : Octets) → IfOk (rows_within (row_step f base) n xs q) (Longer xs)
  unfolding rows_within
  within_longer zero xs q = omega arith
  within_longer (suc n) xs q =
      either_read (Longer xs) (eqb (length q.octets) 0) (Ok xs) (on_row (row_step f base) (rows_within (row_step f base) n) xs (read_of q.octets q.place)) (omega arith)
      (element_longer n (within_longer n) xs (read_of q.octets q.place))

  rows_longer : (xs : List RoaRow) (q : Octets) → IfOk (rows_of (row_step f base) xs q) (Longer xs)
  unfolding rows_of
  rows_longer xs q = within_longer (length q.octets) xs q

some_longer : (f : Family) (xs : List RoaRow) (q : Octets) → IfOk (some_rows f xs q) (Longer xs)
some_longer f xs q =
    either_read (Longer xs) (eqb (length q.octets) 0) (broken Content Structure q.place) (rows_of (row_step f (length xs)) xs q) tt (rows_longer f (length xs) xs q)

family_longer : (f : Family) (xs : List RoaRow) (q : Octets) → IfOk (family_rows f xs q) (Longer xs)
family_longer f xs q =
    after_read (λ _. Unit {0}) (Longer xs) (expect_of Content 48 q) _ (any_read (expect_of Content 48 q))
    (λ s _. after_read (Longer xs) (Longer xs) (some_rows f xs (inside s.0)) _ (some_longer f xs (inside s.0))
    (λ ys h. after_read (λ _. Unit {0}) (Longer xs) (end_of Content s.1) _ (any_read (end_of Content s.1)) (λ _ _. h)))

abbrev More : Known → Known → Type 0
More s k = Longer s.rows k.rows

step_longer : (s : Known) (e : Seen) → IfOk (family_step s e) (More s)
step_longer s e =
    either_read (More s) (eqb e.tag 48) (family_in s (inside e)) (broken Content Structure e.place)
    (after_read (λ _. Unit {0}) (More s) (family_after Content s.family (inside e)) _ (any_read (family_after Content s.family (inside e)))
    (λ h _. after_read (Longer s.rows) (More s) (family_rows h.0 s.rows h.1) _ (family_longer h.0 s.rows h.1) (λ rs k. k)))
    tt

-- ---- a table that is filled further from what stood in it at first

pub record Gathers (old : List RoaRow) (s t : Gathered) : Type 0 where
  pub name : t.name ≡ s.name
  pub past : s.past ≡ drop (length s.known.rows) old → t.past ≡ drop (length t.known.rows) old

-- how a reading that fills a table ended, beside one that only reads the families
abbrev pub Agrees : List RoaRow → Gathered → Result Known Report → Result Gathered Report → Type 0
Agrees old s r (Ok t) = (r ≡ Ok t.known) × Gathers old s t
Agrees old s r (Err e) = r ≡ Err e

later : (a b : ℕ) (old ys : List RoaRow) → a ≤ b → ys ≡ drop a old → drop (b - a) ys ≡ drop b old
later a b old ys h e =
    let k : a + (b - a) ≡ b = omega (arith, h) in
    ap (drop (b - a)) e ∙ drop-drop (b - a) a old ∙ ap (λ (n : ℕ). drop n old) k

module _ (old : List RoaRow) where
  further :
      (s : Gathered) (k : Known) (a : Result Known Report) (o : Result Gathered Report) → More s.known k
      → Agrees old (gathered s k) a o → Agrees old s a o
  further s k a (Err e) m h = h
  further s k a (Ok t) m h = (
    h.0,
    record {
      name = h.1.name;
      past = λ e. h.1.past (later (length s.known.rows) (length k.rows) old s.past m e);
    },
  )

  agrees-row :
      (n : ℕ) (s : Gathered) (z : Octets)
      → ((t : Gathered) → Agrees old t (rows_within family_step n t.known z) (rows_within gather_step n t z))
      → (o : Result Known Report) → IfOk o (More s.known)
      → Agrees old s (then_read o (λ k. rows_within family_step n k z)) (then_read (then_read o (λ k. Ok (gathered s k))) (λ t. rows_within gather_step n t z))
  agrees-row n s z more (Err e) m = refl
  agrees-row n s z more (Ok k) m = further s k _ _ m (more (gathered s k))

  agrees-end :
      (n : ℕ) (s : Gathered)
      → ((t : Gathered) (z : Octets) → Agrees old t (rows_within family_step n t.known z) (rows_within gather_step n t z))
      → (b : Bool) (o : Result (Seen × Octets) ElementFault)
      → Agrees old s (cond b (Ok s.known) (on_row family_step (rows_within family_step n) s.known o)) (cond b (Ok s) (on_row gather_step (rows_within gather_step n) s o))
  agrees-end n s more true o = (refl, record { name = refl; past = λ e. e })
  agrees-end n s more false (Err e) = refl
  agrees-end n s more false (Ok p) = agrees-row n s p.1 (λ t. more t p.1) (family_step s.known p.0) (step_longer s.known p.0)

  agrees-within : (n : ℕ) (s : Gathered) (q : Octets) → Agrees old s (rows_within family_step n s.known q) (rows_within gather_step n s q)
  unfolding rows_within
  agrees-within zero s q = (refl, record { name = refl; past = λ e. e })
  agrees-within (suc n) s q = agrees-end n s (agrees-within n) (eqb (length q.octets) 0) (read_of q.octets q.place)

  agrees : (s : Gathered) (q : Octets) → Agrees old s (rows_of family_step s.known q) (rows_of gather_step s q)
  unfolding rows_of
  agrees s q = agrees-within (length q.octets) s q

  -- by how the reading ended
  pub gathered_so : (s : Gathered) (q : Octets) (o : Result Gathered Report) → o ≡ rows_of gather_step s q → Agrees old s (rows_of family_step s.known q) o
  gathered_so s q o e = rw e (agrees s q)

-- what a reading that was not stopped leaves in the table, at last
pub gathered_at :
    (f : Option Family) (n : ℕ) (t u : List RoaRow) (r : Result Known Report) → t ≡ u
    → r ≡ Ok record { family = f; rows = take n t } → Ok record { family = f; rows = take n u } ≡ r
gathered_at f n t u r same e = ap (λ (x : List RoaRow). Ok record { family = f; rows = take n x }) (sym same) ∙ sym e

pub past_at :
    (n : ℕ) (old t u : List RoaRow) → n ≤ length t → t ≡ u → drop n t ≡ drop (length (take n t)) old → drop n u ≡ drop n old
past_at n old t u room same h = ap (drop n) (sym same) ∙ h ∙ ap (λ (i : ℕ). drop i old) (length-take-le n t room)
