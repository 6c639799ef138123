-- A row of elements, by its first one and the rest. Assumes nothing.
use Rattle.std.proofs.Common.{◌≡◌, ℕ, zero, suc, ◌<◌, ◌≤◌, Bool, true, false, eqb, length, Ok, Err, Result, sym, refl, ap, ◌∙◌, arith}
use Rattle.std.proofs.lemmas.Bool.Decides.{nat_tests}
use Rattle.fault.specs.declared.Report.{Report}
use Rattle.fault.specs.declared.ElementFault.{ElementFault}
use Rattle.fault.specs.Faults.{element_report}
use Rattle.element.specs.Reading.{Seen, Octets, read_of}
use Rattle.element.proofs.Parses.{shorter}
use Rattle.layout.specs.Expecting.{then_read}
use Rattle.layout.specs.Rows.{on_row, rows_within, rows_of}

-- what the test for an end says
pub some_left : (n : ℕ) → false ≡ eqb n 0 → n ≡ 0 → ⊥
some_left n e h = grind (arith, nat_tests)

pub none_left : (n : ℕ) → true ≡ eqb n 0 → n ≡ 0
none_left n e = grind (arith, nat_tests)

module _ {S : Type 0} (step : S → Seen → Result S Report) where
  within_none : (n : ℕ) (s : S) (q : Octets) → length q.octets ≡ 0 → rows_within step n s q ≡ Ok s
  unfolding rows_within
  within_none zero s q none = refl
  within_none (suc n) s q none = grind (arith, nat_tests)

  within-some :
      (n : ℕ) (s : S) (q : Octets) → (length q.octets ≡ 0 → ⊥)
      → rows_within step (suc n) s q ≡ on_row step (rows_within step n) s (read_of q.octets q.place)
  unfolding rows_within
  within-some n s q some = grind (arith, nat_tests)

  mutual-step :
      (n m : ℕ) (q : Octets) (r : Result (Seen × Octets) ElementFault) → read_of q.octets q.place ≡ r
      → ((s : S) (z : Octets) → length z.octets < length q.octets → rows_within step n s z ≡ rows_within step m s z) → (s : S)
      → on_row step (rows_within step n) s r ≡ on_row step (rows_within step m) s r
  mutual-step n m q (Err f) e same s = refl
  mutual-step n m q (Ok p) e same s = on_step (step s p.0)
    where
      on_step : (o : Result S Report) → then_read o (λ t. rows_within step n t p.1) ≡ then_read o (λ t. rows_within step m t p.1)
      on_step (Ok t) = same t p.1 (shorter q.octets q.place p.0 p.1 e)
      on_step (Err f) = refl

  abbrev Same : ℕ → ℕ → Octets → Type 0
  Same n m q = (s : S) (z : Octets) → length z.octets < length q.octets → rows_within step n s z ≡ rows_within step m s z

  enough-by :
      (n m : ℕ) (s : S) (q : Octets) → Same n m q → (b : Bool) → eqb (length q.octets) 0 ≡ b
      → rows_within step (suc n) s q ≡ rows_within step (suc m) s q
  enough-by n m s q same true e = within_none (suc n) s q (none_left _ (sym e)) ∙ sym (within_none (suc m) s q (none_left _ (sym e)))
  enough-by n m s q same false e =
      within-some n s q (some_left _ (sym e)) ∙ mutual-step n m q (read_of q.octets q.place) refl same s ∙ sym (within-some m s q (some_left _ (sym e)))

  -- as many elements as there are octets are all
  enough : (n m : ℕ) (s : S) (q : Octets) → length q.octets ≤ n → length q.octets ≤ m → rows_within step n s q ≡ rows_within step m s q
  enough zero m s q h k = within_none zero s q (omega arith) ∙ sym (within_none m s q (omega arith))
  enough (suc n) zero s q h k = within_none (suc n) s q (omega arith) ∙ sym (within_none zero s q (omega arith))
  enough (suc n) (suc m) s q h k = enough-by n m s q (λ t z lt. enough n m t z (omega arith) (omega arith)) (eqb (length q.octets) 0) refl

  -- a row that is at its end
  pub ended : (s : S) (q : Octets) → length q.octets ≡ 0 → rows_of step s q ≡ Ok s
  unfolding rows_of
  ended s q none = within_none (length q.octets) s q none

  -- a row that is not, by its first element
  pub opened : (s : S) (q : Octets) → (length q.octets ≡ 0 → ⊥) → rows_of step s q ≡ on_row step (rows_of step) s (read_of q.octets q.place)
  unfolding rows_of
  opened s q some = first (length q.octets) refl
    where
      on_row_lem :
          (n : ℕ) → length q.octets ≡ suc n → (r : Result (Seen × Octets) ElementFault) → read_of q.octets q.place ≡ r
          → on_row step (rows_within step n) s r ≡ on_row step (λ t z. rows_within step (length z.octets) t z) s r
      on_row_lem n e (Err f) i = refl
      on_row_lem n e (Ok p) i = on_step (step s p.0)
        where
          on_step : (o : Result S Report) → then_read o (λ t. rows_within step n t p.1) ≡ then_read o (λ t. rows_within step (length p.1.octets) t p.1)
          on_step (Ok t) = let lt = shorter q.octets q.place p.0 p.1 i in enough n (length p.1.octets) t p.1 (omega arith) (omega arith)
          on_step (Err f) = refl

      first : (n : ℕ) → length q.octets ≡ n → rows_within step n s q ≡ on_row step (λ t z. rows_within step (length z.octets) t z) s (read_of q.octets q.place)
      first zero e = absurd (some e)
      first (suc n) e = within-some n s q some ∙ on_row_lem n e (read_of q.octets q.place) refl

  -- the element that comes first is no element
  pub no-element :
      (s : S) (q : Octets) (x : ElementFault) → (length q.octets ≡ 0 → ⊥) → Err x ≡ read_of q.octets q.place
      → rows_of step s q ≡ Err (element_report x)
  no-element s q x some e = opened s q some ∙ ap (on_row step (rows_of step) s) (sym e)

  -- the element that comes first is refused
  pub refused :
      (s : S) (q : Octets) (e : Seen) (z : Octets) (f : Report) → (length q.octets ≡ 0 → ⊥) → Ok (e, z) ≡ read_of q.octets q.place
      → Err f ≡ step s e → rows_of step s q ≡ Err f
  refused s q e z f some p i = opened s q some ∙ ap (on_row step (rows_of step) s) (sym p) ∙ ap (λ (o : Result S Report). then_read o (λ t. rows_of step t z)) (sym i)

  -- the element that comes first is taken
  pub taken :
      (s t : S) (q : Octets) (e : Seen) (z : Octets) → (length q.octets ≡ 0 → ⊥) → Ok (e, z) ≡ read_of q.octets q.place
      → Ok t ≡ step s e → rows_of step s q ≡ rows_of step t z
  taken s t q e z some p i = opened s q some ∙ ap (on_row step (rows_of step) s) (sym p) ∙ ap (λ (o : Result S Report). then_read o (λ t. rows_of step t z)) (sym i)
