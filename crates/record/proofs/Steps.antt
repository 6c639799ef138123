-- The records of a book, one by one, and those of a book with octets after it. Assumes nothing.
use Rattle.std.proofs.Common.{◌≡◌, ℕ, zero, suc, ◌<◌, ◌≤◌, List, [], ◌∷◌, ◌++◌, length, Some, None, Option, sym, refl, ap, ◌∙◌, arith}
use Rattle.record.specs.Format.{Entry, Front, record_of, listed, remaining, records_of, rest_of, records, leftover}
use Rattle.std.specs.Iterator.{YieldsFirstBy}
use Rattle.record.specs.declared.Record.{Record}
use Rattle.record.specs.declared.Records.{Records}
use Rattle.record.specs.Views.{record_seen, records_left}
use Rattle.record.proofs.Fronts.{record_shorter, record_extends}

listed_same : (o : Front Entry) (f g : List ℕ → List Entry) → ((q : Entry × List ℕ) → o ≡ Some q → f q.1 ≡ g q.1) → listed o f ≡ listed o g
listed_same (Some q) f g h = ap (λ (l : List Entry). q.0 ∷ l) (h q refl)
listed_same None f g h = refl

remaining_same : (s : List ℕ) (o : Front Entry) (f g : List ℕ → List ℕ) → ((q : Entry × List ℕ) → o ≡ Some q → f q.1 ≡ g q.1) → remaining s o f ≡ remaining s o g
remaining_same s (Some q) f g h = h q refl
remaining_same s None f g h = refl

-- any count that is no less than the octets gives all records
enough : (n m : ℕ) (s : List ℕ) → length s ≤ n → length s ≤ m → records_of n s ≡ records_of m s
enough zero zero s h k = refl
enough zero (suc m) [] h k = refl
enough zero (suc m) (x ∷ s) h k = absurd (omega arith)
enough (suc n) zero [] h k = refl
enough (suc n) zero (x ∷ s) h k = absurd (omega arith)
enough (suc n) (suc m) s h k =
    listed_same (record_of s) (records_of n) (records_of m) (λ q e. let f = record_shorter s q e in enough n m q.1 (omega arith) (omega arith))

rest_enough : (n m : ℕ) (s : List ℕ) → length s ≤ n → length s ≤ m → rest_of n s ≡ rest_of m s
rest_enough zero zero s h k = refl
rest_enough zero (suc m) [] h k = refl
rest_enough zero (suc m) (x ∷ s) h k = absurd (omega arith)
rest_enough (suc n) zero [] h k = refl
rest_enough (suc n) zero (x ∷ s) h k = absurd (omega arith)
rest_enough (suc n) (suc m) s h k =
    remaining_same s (record_of s) (rest_of n) (rest_of m) (λ q e. let f = record_shorter s q e in rest_enough n m q.1 (omega arith) (omega arith))

-- the records of a book: the first, and those of the octets after it
pub records_step : (s : List ℕ) → records s ≡ listed (record_of s) records
unfolding records
records_step [] = refl
records_step (x ∷ s) =
    listed_same (record_of (x ∷ s)) (records_of (length s)) records
    (λ q e. let f = record_shorter (x ∷ s) q e in enough (length s) (length q.1) q.1 (omega arith) (omega arith))

pub leftover_step : (s : List ℕ) → leftover s ≡ remaining s (record_of s) leftover
unfolding leftover
leftover_step [] = refl
leftover_step (x ∷ s) =
    remaining_same (x ∷ s) (record_of (x ∷ s)) (rest_of (length s)) leftover
    (λ q e. let f = record_shorter (x ∷ s) q e in rest_enough (length s) (length q.1) q.1 (omega arith) (omega arith))

pub records_some : (s : List ℕ) (q : Entry × List ℕ) → record_of s ≡ Some q → records s ≡ q.0 ∷ records q.1
records_some s q e = records_step s ∙ ap (λ (o : Front Entry). listed o records) e

pub records_none : (s : List ℕ) → record_of s ≡ None → records s ≡ []
records_none s e = records_step s ∙ ap (λ (o : Front Entry). listed o records) e

pub leftover_some : (s : List ℕ) (q : Entry × List ℕ) → record_of s ≡ Some q → leftover s ≡ leftover q.1
leftover_some s q e = leftover_step s ∙ ap (λ (o : Front Entry). remaining s o leftover) e

pub leftover_none : (s : List ℕ) → record_of s ≡ None → leftover s ≡ s
leftover_none s e = leftover_step s ∙ ap (λ (o : Front Entry). remaining s o leftover) e

-- what is said of a book that begins with no record, and carried over one record, holds of every book
pub by_records : (P : List ℕ → Type 0) → ((s : List ℕ) → record_of s ≡ None → P s) → ((s : List ℕ) (q : Entry × List ℕ) → record_of s ≡ Some q → P q.1 → P s) → (s : List ℕ) → P s
by_records P none some s = down (length s) s (omega arith)
  where
    at : (n : ℕ) (s : List ℕ) (o : Front Entry) → record_of s ≡ o → ((q : Entry × List ℕ) → length q.1 < length s → P q.1) → P s
    at n s None e below = none s e
    at n s (Some q) e below = some s q e (below q (record_shorter s q e))

    down : (n : ℕ) (s : List ℕ) → length s ≤ n → P s
    down zero s h = at zero s (record_of s) refl (λ q f. absurd (omega arith))
    down (suc n) s h = at n s (record_of s) refl (λ q f. down n q.1 (omega arith))

-- octets after a book leave its records, and go on where they end
pub records_append : (t s : List ℕ) → records (s ++ t) ≡ records s ++ records (leftover s ++ t)
records_append t =
    by_records (λ s. records (s ++ t) ≡ records s ++ records (leftover s ++ t))
    (λ s e. sym (ap (λ (l : List Entry). l ++ records (leftover s ++ t)) (records_none s e) ∙ ap (λ (l : List ℕ). records (l ++ t)) (leftover_none s e)))
    (λ s q e ih.
    records_some (s ++ t) (q.0, q.1 ++ t) (record_extends s t q e)
    ∙ ap (λ (l : List Entry). q.0 ∷ l) ih
    ∙ sym (ap (λ (l : List Entry). l ++ records (leftover s ++ t)) (records_some s q e) ∙ ap (λ (l : List ℕ). q.0 ∷ records q.1 ++ records (l ++ t)) (leftover_some s q e)))

pub leftover_append : (t s : List ℕ) → leftover (s ++ t) ≡ leftover (leftover s ++ t)
leftover_append t =
    by_records (λ s. leftover (s ++ t) ≡ leftover (leftover s ++ t))
    (λ s e. sym (ap (λ (l : List ℕ). leftover (l ++ t)) (leftover_none s e)))
    (λ s q e ih.
    leftover_some (s ++ t) (q.0, q.1 ++ t) (record_extends s t q e)
    ∙ ih
    ∙ sym (ap (λ (l : List ℕ). leftover (l ++ t)) (leftover_some s q e)))

-- no whole record stands where the records end
pub leftover_ends : (s : List ℕ) → record_of (leftover s) ≡ None
leftover_ends =
    by_records (λ s. record_of (leftover s) ≡ None)
    (λ s e. ap record_of (leftover_none s e) ∙ e)
    (λ s q e ih. ap record_of (leftover_some s q e) ∙ ih)

-- where no record is left, none comes
pub yields_none : (s : Records) (r : Option Record) → r ≡ None → None ≡ record_of s.rest.now → YieldsFirstBy record_seen records_left s r s
yields_none s None e f = (records_none s.rest.now (sym f), records_none s.rest.now (sym f))
yields_none s (Some x) e f = absurd (cc)
