-- That the test of a number's parts tells the numbers of true dates from all others. Assumes nothing.
use Rattle.std.proofs.Common.{◌≡◌, ℕ, ◌+◌, ◌*◌, ◌/◌, ◌%◌, ◌<◌, ◌≤◌, Bool, true, false, ◌&&◌, ◌||◌, eqb, leb, Decides, refl, ap, ◌∙◌, div-add-mod', arith}
use native.Mathlib.Nat.{div-div-eq-div-mul}
use Rattle.std.proofs.lemmas.Bool.{leb-true, le-leb, and_parts, and_from, cond_both}
use Rattle.std.proofs.lemmas.Bool.Decides.{Decides-and}
use Rattle.moment.specs.Calendar.{Date, TrueDate, leap, days_in, number_of, date_of, IsMoment, is_day, is_time, is_true, is_moment}

decides_leb : (a b : ℕ) → Decides (leb a b) (a ≤ b)
decides_leb a b = (leb-true a b, le-leb a b)

-- no month is longer than 31 days
pub days_le : (y m : ℕ) → days_in y m ≤ 31
days_le y m =
    cond_both (eqb m 2) _ _ (λ n. n ≤ 31) (λ _. cond_both (leap y) 29 28 (λ n. n ≤ 31) (λ _. omega arith) (λ _. omega arith))
    (λ _. cond_both (eqb m 4 || (eqb m 6 || (eqb m 9 || eqb m 11))) 30 31 (λ n. n ≤ 31) (λ _. omega arith) (λ _. omega arith))

day_decides : (y m d : ℕ) → Decides (is_day y m d) ((1 ≤ y) × ((y ≤ 9999) × ((1 ≤ m) × ((m ≤ 12) × ((1 ≤ d) × (d ≤ days_in y m))))))
day_decides y m d =
    Decides-and _ _ (decides_leb 1 y)
    (Decides-and _ _ (decides_leb y 9999)
    (Decides-and _ _ (decides_leb 1 m)
    (Decides-and _ _ (decides_leb m 12) (Decides-and _ _ (decides_leb 1 d) (decides_leb d (days_in y m))))))

time_decides : (h m s : ℕ) → Decides (is_time h m s) ((h ≤ 23) × ((m ≤ 59) × (s ≤ 59)))
time_decides h m s = Decides-and _ _ (decides_leb h 23) (Decides-and _ _ (decides_leb m 59) (decides_leb s 59))

date_decides : (d : Date) → Decides (is_true d) (TrueDate d)
date_decides d = (
  λ e.
      let p = and_parts (is_day d.year d.month d.day) (is_time d.hour d.minute d.second) e in
      let a = (day_decides d.year d.month d.day).0 p.0 in
      let b = (time_decides d.hour d.minute d.second).0 p.1 in
      record {
        year_from = a.0;
        year_to = a.1.0;
        month_from = a.1.1.0;
        month_to = a.1.1.1.0;
        day_from = a.1.1.1.1.0;
        day_to = a.1.1.1.1.1;
        hour_to = b.0;
        minute_to = b.1.0;
        second_to = b.1.1;
      },
  λ t.
      and_from _ _
      ((day_decides _ _ _).1 (t.year_from, (t.year_to, (t.month_from, (t.month_to, (t.day_from, t.day_to))))))
      ((time_decides _ _ _).1 (t.hour_to, (t.minute_to, t.second_to))),
)

-- what lies above two digits, and they
two_more : (n k j : ℕ) → k * 100 ≡ j → n / k ≡ n / j * 100 + n / k % 100
two_more n k j e = let f = div-div-eq-div-mul n k 100 ∙ ap (λ x. n / x) e in omega (arith, div-add-mod' (n / k) 100)

-- a number is made of its parts
parts_number : (n : ℕ) → n ≡ number_of (date_of n)
parts_number n =
    let a = two_more n 100 10000 refl in
    let b = two_more n 10000 1000000 refl in
    let c = two_more n 1000000 100000000 refl in
    let d = two_more n 100000000 10000000000 refl in
    omega arith

-- the parts of the number of a true date are those of the date
module _ (y m d h i s : ℕ) (m< : m < 100) (d< : d < 100) (h< : h < 100) (i< : i < 100) (s< : s < 100) where
  n : ℕ
  n = ((((y * 100 + m) * 100 + d) * 100 + h) * 100 + i) * 100 + s

  year_is : n / 10000000000 ≡ y
  unfolding n
  year_is = omega arith

  month_is : n / 100000000 % 100 ≡ m
  unfolding n
  month_is = omega arith

  day_is : n / 1000000 % 100 ≡ d
  unfolding n
  day_is = omega arith

  hour_is : n / 10000 % 100 ≡ h
  unfolding n
  hour_is = omega arith

  minute_is : n / 100 % 100 ≡ i
  unfolding n
  minute_is = omega arith

  second_is : n % 100 ≡ s
  unfolding n
  second_is = omega arith

from_date : (d : Date) → TrueDate d → is_moment (number_of d) ≡ true
unfolding is_moment n
from_date d t =
    let y = d.year in
    let m = d.month in
    let v = d.day in
    let h = d.hour in
    let i = d.minute in
    let s = d.second in
    let days = days_le y m in
    let a : m < 100 = omega arith in
    let b : v < 100 = omega arith in
    let c : h < 100 = omega arith in
    let e : i < 100 = omega arith in
    let f : s < 100 = omega arith in
    rw (year_is y m v h i s a b c e f, month_is y m v h i s a b c e f, day_is y m v h i s a b c e f, hour_is y m v h i s a b c e f, minute_is y m v h i s a b c e f, second_is y m v h i s a b c e f)
    ((date_decides d).1 t)

-- the test tells the moments
pub moment_decides : (n : ℕ) → Decides (is_moment n) (IsMoment n)
unfolding is_moment
moment_decides n = (
  λ e. (date_of n, ((date_decides (date_of n)).0 e, parts_number n)),
  λ p. ap is_moment p.1.1 ∙ from_date p.0 p.1.0,
)

-- the answers of the test of a number: by the time of day where there is such a day, and else no
pub by_time : (n : ℕ) (r : Bool) → true ≡ is_day (n / 10000000000) (n / 100000000 % 100) (n / 1000000 % 100) → r ≡ is_time (n / 10000 % 100) (n / 100 % 100) (n % 100) → r ≡ is_moment n
unfolding is_moment
by_time n r e f = f ∙ ap (λ b. b && is_time (n / 10000 % 100) (n / 100 % 100) (n % 100)) e

pub no_day : (n : ℕ) → false ≡ is_day (n / 10000000000) (n / 100000000 % 100) (n / 1000000 % 100) → false ≡ is_moment n
unfolding is_moment
no_day n e = ap (λ b. b && is_time (n / 10000 % 100) (n / 100 % 100) (n % 100)) e

pub answers_moment : (n : ℕ) (r : Bool) → r ≡ is_moment n → Decides r (IsMoment n)
answers_moment n r e = rw e (moment_decides n)
