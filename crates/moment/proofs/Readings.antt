-- That the moment read from a content is the one that the content is of, and that each has one of the other. Assumes nothing.
use Rattle.std.proofs.Common.{◌≡◌, ℕ, ◌+◌, ◌%◌, ◌^◌, ◌<◌, ◌≤◌, true, List, [], ◌∷◌, ◌++◌, Some, None, Option, sym, refl, ap, ◌∙◌, inl, inr, arith, MatchOption}
use Rattle.std.proofs.lemmas.Bool.{cases_Bool, cases_lt, cond-true, cond-false, lt-ltb, le-ltb}
use Rattle.moment.specs.declared.Moment.{Moment}
use Rattle.moment.specs.Calendar.{IsMoment, is_moment, moment_of, number_in}
use Rattle.moment.specs.Times.{decimals, zulu_of, with_century, full_year, moment_at, moment_from, generalized_of, utc_of, noted, GeneralizedTime, UtcTime, UtcOneMoment, UtcOneContent, GeneralizedOneMoment, GeneralizedOneContent}
use Rattle.moment.proofs.Dates.{moment_decides, days_le}
use Rattle.moment.proofs.Numerals.{zulu_written, zulu_read}

-- no moment has more than 14 digits
pub moment_below : (m : ℕ) → IsMoment m → m < 10 ^ 14
moment_below m p =
    let d = p.0 in
    let t = p.1.0 in
    let e = p.1.1 in
    let l = days_le d.year d.month in
    omega arith

-- a number that passed the test
passed : (n m : ℕ) → moment_at n ≡ Some m → (n ≡ m) × (is_moment m ≡ true)
passed n m e =
    elim (cases_Bool (is_moment n)) [
      | inl t ↦
          let f : Some n ≡ Some m = sym (cond-true _ (Some n) None t) ∙ e in
          let g : n ≡ m = cc in
          (g, ap is_moment (sym g) ∙ t)
      | inr t ↦
          let f : None ≡ Some m = sym (cond-false _ (Some n) None t) ∙ e in
          let z : ◌≡◌ {A = ℕ} 0 1 = cc in
          absurd (omega arith)
    ]

passes : (m : ℕ) → IsMoment m → moment_at m ≡ Some m
passes m p = cond-true _ _ _ ((moment_decides m).1 p)

-- the moment that was answered, in the words of a relation
module _ (Time : List ℕ → ℕ → Type 0) (read : List ℕ → Option ℕ)
    (sound : (c : List ℕ) (m : ℕ) → read c ≡ Some m → Time c m)
    (complete : (c : List ℕ) (m : ℕ) → Time c m → read c ≡ Some m) where
  pub answers : (c : List ℕ) (r : Option Moment) → noted r ≡ read c → MatchOption r ((m : ℕ) → Time c m → ⊥) (λ m. Time c (number_in m))
  answers c None e = λ m t. let f = complete c m t in let z : ◌≡◌ {A = ℕ} 0 1 = cc in omega arith
  answers c (Some x) e = sound c x.number (sym e)

  pub one_moment : (c : List ℕ) (m n : ℕ) → Time c m → Time c n → m ≡ n
  one_moment c m n s t = let e = complete c m s in let f = complete c n t in cc

read_parts : (o : Option ℕ) (m : ℕ) → moment_from o ≡ Some m → (o ≡ Some m) × (is_moment m ≡ true)
read_parts None m e = let z : ◌≡◌ {A = ℕ} 0 1 = cc in absurd (omega arith)
read_parts (Some n) m e = let p = passed n m e in (ap Some p.0, p.1)

pub generalized_sound : (c : List ℕ) (m : ℕ) → generalized_of c ≡ Some m → GeneralizedTime c m
unfolding generalized_of
generalized_sound c m e =
    let p = read_parts (zulu_of 14 c) m e in
    record { moment = (moment_decides m).0 p.1; content = (zulu_read 14 m c p.0).0 }

pub generalized_complete : (c : List ℕ) (m : ℕ) → GeneralizedTime c m → generalized_of c ≡ Some m
unfolding generalized_of
generalized_complete c m t =
    ap (λ x. moment_from (zulu_of 14 x)) t.content
    ∙ ap moment_from (zulu_written 14 m (moment_below m t.moment))
    ∙ passes m t.moment

-- a short year and its century
century_of : (n m : ℕ) → n < 10 ^ 12 → with_century n ≡ m → (19500000000000 ≤ m) × ((m < 20500000000000) × (n ≡ m % 10 ^ 12))
century_of n m h e =
    elim (cases_lt n 500000000000) [
      | inl l ↦ let f = sym (cond-true _ (20000000000000 + n) (19000000000000 + n) (lt-ltb n 500000000000 l)) ∙ e in (omega arith, (omega arith, omega arith))
      | inr l ↦ let f = sym (cond-false _ (20000000000000 + n) (19000000000000 + n) (le-ltb n 500000000000 l)) ∙ e in (omega arith, (omega arith, omega arith))
    ]

century_back : (m : ℕ) → 19500000000000 ≤ m → m < 20500000000000 → with_century (m % 10 ^ 12) ≡ m
century_back m h k =
    elim (cases_lt (m % 10 ^ 12) 500000000000) [
      | inl l ↦ cond-true _ _ _ (lt-ltb (m % 10 ^ 12) 500000000000 l) ∙ omega arith
      | inr l ↦ cond-false _ _ _ (le-ltb (m % 10 ^ 12) 500000000000 l) ∙ omega arith
    ]

short_year : (o : Option ℕ) (m : ℕ) → full_year o ≡ Some m → (n : ℕ) × ((o ≡ Some n) × (with_century n ≡ m))
short_year None m e = let z : ◌≡◌ {A = ℕ} 0 1 = cc in absurd (omega arith)
short_year (Some n) m e = let f : with_century n ≡ m = cc in (n, (refl, f))

pub utc_sound : (c : List ℕ) (m : ℕ) → utc_of c ≡ Some m → UtcTime c m
unfolding utc_of
utc_sound c m e =
    let p = read_parts (full_year (zulu_of 12 c)) m e in
    let q = short_year (zulu_of 12 c) m p.0 in
    let n = q.0 in
    let z = zulu_read 12 n c q.1.0 in
    let y = century_of n m z.1 q.1.1 in
    record {
      moment = (moment_decides m).0 p.1;
      from = y.0;
      before = y.1.0;
      content = z.0 ∙ ap (λ x. decimals 12 x ++ (90 ∷ [])) y.1.1;
    }

pub utc_complete : (c : List ℕ) (m : ℕ) → UtcTime c m → utc_of c ≡ Some m
unfolding utc_of
utc_complete c m t =
    ap (λ x. moment_from (full_year (zulu_of 12 x))) t.content
    ∙ ap (λ o. moment_from (full_year o)) (zulu_written 12 (m % 10 ^ 12) (omega arith))
    ∙ ap moment_at (century_back m t.from t.before)
    ∙ passes m t.moment

-- the theorems
pub utc_one_moment : UtcOneMoment
utc_one_moment = one_moment UtcTime utc_of utc_sound utc_complete

pub generalized_one_moment : GeneralizedOneMoment
generalized_one_moment = one_moment GeneralizedTime generalized_of generalized_sound generalized_complete

pub utc_one_content : UtcOneContent
utc_one_content m p h k =
    let c = decimals 12 (m % 10 ^ 12) ++ (90 ∷ []) in
    let t : UtcTime c m = record { moment = p; from = h; before = k; content = refl } in
    record { content = c; written = t; read_back = utc_complete c m t; only = λ _ s. s.content }

pub generalized_one_content : GeneralizedOneContent
generalized_one_content m p =
    let c = decimals 14 m ++ (90 ∷ []) in
    let t : GeneralizedTime c m = record { moment = p; content = refl } in
    record { content = c; written = t; read_back = generalized_complete c m t; only = λ _ s. s.content }

-- the answers of the two readers, by the number that was read
noted_moment : (n : ℕ) → noted (moment_of n) ≡ moment_at n
noted_moment n =
    elim (cases_Bool (is_moment n)) [
      | inl t ↦ ap noted (cond-true _ _ _ t) ∙ sym (cond-true _ _ _ t)
      | inr t ↦ ap noted (cond-false _ _ _ t) ∙ sym (cond-false _ _ _ t)
    ]

read_none : (o : Option ℕ) (r : Option Moment) → None ≡ o → r ≡ None → noted r ≡ moment_from o
read_none o r z e = ap noted e ∙ ap moment_from z

read_some : (o : Option ℕ) (r : Option Moment) (n : ℕ) → Some n ≡ o → r ≡ moment_of n → noted r ≡ moment_from o
read_some o r n z e = ap noted e ∙ noted_moment n ∙ ap moment_from z

pub utc_none : (c : List ℕ) (r : Option Moment) → None ≡ full_year (zulu_of 12 c) → r ≡ None → noted r ≡ utc_of c
unfolding utc_of
utc_none c = read_none (full_year (zulu_of 12 c))

pub utc_some : (c : List ℕ) (r : Option Moment) (n : ℕ) → Some n ≡ full_year (zulu_of 12 c) → r ≡ moment_of n → noted r ≡ utc_of c
unfolding utc_of
utc_some c = read_some (full_year (zulu_of 12 c))

pub generalized_none : (c : List ℕ) (r : Option Moment) → None ≡ zulu_of 14 c → r ≡ None → noted r ≡ generalized_of c
unfolding generalized_of
generalized_none c = read_none (zulu_of 14 c)

pub generalized_some : (c : List ℕ) (r : Option Moment) (n : ℕ) → Some n ≡ zulu_of 14 c → r ≡ moment_of n → noted r ≡ generalized_of c
unfolding generalized_of
generalized_some c = read_some (zulu_of 14 c)

-- and in the words of the relations
pub answers_utc : (c : List ℕ) (r : Option Moment) → noted r ≡ utc_of c → MatchOption r ((m : ℕ) → UtcTime c m → ⊥) (λ m. UtcTime c (number_in m))
answers_utc = answers UtcTime utc_of utc_sound utc_complete

pub answers_generalized : (c : List ℕ) (r : Option Moment) → noted r ≡ generalized_of c → MatchOption r ((m : ℕ) → GeneralizedTime c m → ⊥) (λ m. GeneralizedTime c (number_in m))
answers_generalized = answers GeneralizedTime generalized_of generalized_sound generalized_complete
