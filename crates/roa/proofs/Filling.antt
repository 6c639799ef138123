-- Filling a table reads the rows of a family, and keeps the table and what stands past them. Assumes nothing.
use Rattle.std.proofs.Common.{◌≡◌, ℕ, zero, suc, ◌-◌, ◌≤◌, Bool, true, false, cond, eqb, List, [], ◌∷◌, ◌++◌, length, take, drop, Ok, Err, Result, sym, refl, ap, ◌∙◌, length-append}
use Rattle.std.proofs.lemmas.List.{drop-drop, length-take-le}
use Rattle.fault.specs.declared.Report.{Report}
use Rattle.fault.specs.declared.ElementFault.{ElementFault}
use Rattle.element.specs.Reading.{Seen, Octets, read_of}
use Rattle.layout.specs.Expecting.{then_read}
use Rattle.layout.specs.Rows.{on_row, rows_within, rows_of}
use Rattle.roa.specs.declared.RoaRow.{RoaRow}
use Rattle.roa.specs.Rows.{row_in, row_step}
use Rattle.roa.specs.Filling.{Filled, filled, fill_step}

-- a table that is filled further from what stood in it at first
pub record Fills (old : List RoaRow) (s t : Filled) : Type 0 where
  pub base : t.base ≡ s.base
  pub name : t.name ≡ s.name
  pub past : s.past ≡ drop (length s.rows) old → t.past ≡ drop (length t.rows) old

-- how a reading that fills a table ended, beside one that only reads the rows
abbrev pub Agrees : List RoaRow → Filled → Result (List RoaRow) Report → Result Filled Report → Type 0
Agrees old s r (Ok t) = (r ≡ Ok t.rows) × Fills old s t
Agrees old s r (Err e) = r ≡ Err e

module _ (old : List RoaRow) where
  one_more : (xs ys : List RoaRow) (r : RoaRow) → ys ≡ drop (length xs) old → drop 1 ys ≡ drop (length (xs ++ (r ∷ []))) old
  one_more xs ys r e = ap (drop 1) e ∙ drop-drop 1 (length xs) old ∙ ap (λ (n : ℕ). drop n old) (sym (length-append xs (r ∷ [])))

  abbrev step : Filled → List RoaRow → Seen → Result (List RoaRow) Report
  step s = row_step s.family s.base

  -- a row more, and then others
  further :
      (s : Filled) (r : RoaRow) (a : Result (List RoaRow) Report) (o : Result Filled Report)
      → Agrees old (filled s (s.rows ++ (r ∷ []))) a o → Agrees old s a o
  further s r a (Err e) h = h
  further s r a (Ok t) h = (
    h.0,
    record {
      base = h.1.base;
      name = h.1.name;
      past = λ e. h.1.past (one_more s.rows s.past r e);
    },
  )

  agrees-row :
      (n : ℕ) (s : Filled) (z : Octets)
      → ((t : Filled) → Agrees old t (rows_within (step t) n t.rows z) (rows_within fill_step n t z))
      → (o : Result RoaRow Report)
      → Agrees old s (then_read (then_read o (λ r. Ok (s.rows ++ (r ∷ [])))) (λ rs. rows_within (step s) n rs z))
      (then_read (then_read (then_read o (λ r. Ok (s.rows ++ (r ∷ [])))) (λ rs. Ok (filled s rs))) (λ t. rows_within fill_step n t z))
  agrees-row n s z more (Err e) = refl
  agrees-row n s z more (Ok r) = further s r _ _ (more (filled s (s.rows ++ (r ∷ []))))

  agrees-end :
      (n : ℕ) (s : Filled)
      → ((t : Filled) (z : Octets) → Agrees old t (rows_within (step t) n t.rows z) (rows_within fill_step n t z))
      → (b : Bool) (o : Result (Seen × Octets) ElementFault)
      → Agrees old s (cond b (Ok s.rows) (on_row (step s) (rows_within (step s) n) s.rows o)) (cond b (Ok s) (on_row fill_step (rows_within fill_step n) s o))
  agrees-end n s more true o = (refl, record { base = refl; name = refl; past = λ e. e })
  agrees-end n s more false (Err e) = refl
  agrees-end n s more false (Ok p) = agrees-row n s p.1 (λ t. more t p.1) (row_in s.family (length s.rows - s.base) p.0)

  agrees-within : (n : ℕ) (s : Filled) (q : Octets) → Agrees old s (rows_within (step s) n s.rows q) (rows_within fill_step n s q)
  unfolding rows_within
  agrees-within zero s q = (refl, record { base = refl; name = refl; past = λ e. e })
  agrees-within (suc n) s q = agrees-end n s (agrees-within n) (eqb (length q.octets) 0) (read_of q.octets q.place)

  -- the rows of some octets
  agrees : (s : Filled) (q : Octets) → Agrees old s (rows_of (step s) s.rows q) (rows_of fill_step s q)
  unfolding rows_of
  agrees s q = agrees-within (length q.octets) s q

  -- by how the reading ended
  pub filled_so : (s : Filled) (q : Octets) (o : Result Filled Report) → o ≡ rows_of fill_step s q → Agrees old s (rows_of (step s) s.rows q) o
  filled_so s q o e = rw e (agrees s q)

-- what a reading that was not stopped leaves in the table, at last
pub filled_at :
    (n : ℕ) (t u : List RoaRow) (r : Result (List RoaRow) Report) → t ≡ u → r ≡ Ok (take n t) → Ok (take n u) ≡ r
filled_at n t u r same e = ap (λ (x : List RoaRow). Ok (take n x)) (sym same) ∙ sym e

-- and past the rows
pub past_at :
    (b n : ℕ) (old t u : List RoaRow) → b ≤ length old → n ≤ length t → t ≡ u
    → (drop b old ≡ drop (length (take b old)) old → drop n t ≡ drop (length (take n t)) old) → drop n u ≡ drop n old
past_at b n old t u few room same h =
    ap (drop n) (sym same) ∙ h (ap (λ (i : ℕ). drop i old) (sym (length-take-le b old few))) ∙ ap (λ (i : ℕ). drop i old) (length-take-le n t room)
