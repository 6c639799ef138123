-- Dates of the Gregorian calendar with a time of day, and the number YYYYMMDDhhmmss that stands for one. Assumes nothing.
use Rattle.std.specs.Prelude.{◌≡◌, ℕ, ◌+◌, ◌*◌, ◌/◌, ◌%◌, ◌≤◌, Bool, cond, not, ◌&&◌, ◌||◌, Some, None, Option, ◌==◌, nat_le}
use Rattle.moment.specs.declared.Moment.{Moment}

-- A day of the calendar and a time of that day, to the second, as the time types of X.680 46 and 47 have them.
pub record Date : Type 0 where
  pub year : ℕ
  pub month : ℕ
  pub day : ℕ
  pub hour : ℕ
  pub minute : ℕ
  pub second : ℕ

-- A year divisible by 4 is a leap year, unless it is divisible by 100 and not by 400.
abbrev pub leap : ℕ → Bool
leap y = y % 4 == 0 && (not (y % 100 == 0) || y % 400 == 0)

-- How many days a month has: 30 in April, June, September and November, 28 or 29 in February, else 31.
abbrev pub days_in : ℕ → ℕ → ℕ
days_in y m = cond (m == 2) (cond (leap y) 29 28) (cond (m == 4 || (m == 6 || (m == 9 || m == 11))) 30 31)

-- The dates that there are, of the years 1 to 9999. A minute has 60 seconds, 0 to 59: no leap second.
pub record TrueDate (d : Date) : Type 0 where
  pub year_from : 1 ≤ d.year
  pub year_to : d.year ≤ 9999
  pub month_from : 1 ≤ d.month
  pub month_to : d.month ≤ 12
  pub day_from : 1 ≤ d.day
  pub day_to : d.day ≤ days_in d.year d.month
  pub hour_to : d.hour ≤ 23
  pub minute_to : d.minute ≤ 59
  pub second_to : d.second ≤ 59

-- A date as one number, two decimal digits for each part after the year: YYYYMMDDhhmmss.
abbrev pub number_of : Date → ℕ
number_of d = ((((d.year * 100 + d.month) * 100 + d.day) * 100 + d.hour) * 100 + d.minute) * 100 + d.second

-- The date that a number says, two decimal digits for each part after the year.
abbrev pub date_of : ℕ → Date
date_of n =
    record {
      year = n / 10000000000;
      month = n / 100000000 % 100;
      day = n / 1000000 % 100;
      hour = n / 10000 % 100;
      minute = n / 100 % 100;
      second = n % 100;
    }

-- A moment is the number of a true date: not 0, not 20231301000000, and no number of more than 14 digits.
abbrev pub IsMoment : ℕ → Type 0
IsMoment n = (d : Date) × (TrueDate d × (n ≡ number_of d))

-- Whether a year of 1 to 9999 has such a day.
abbrev pub is_day : ℕ → ℕ → ℕ → Bool
is_day y m d = nat_le 1 y && (nat_le y 9999 && (nat_le 1 m && (nat_le m 12 && (nat_le 1 d && nat_le d (days_in y m)))))

-- Whether a day has such a time.
abbrev pub is_time : ℕ → ℕ → ℕ → Bool
is_time h m s = nat_le h 23 && (nat_le m 59 && nat_le s 59)

-- `TrueDate` as a test.
abbrev pub is_true : Date → Bool
is_true d = is_day d.year d.month d.day && is_time d.hour d.minute d.second

-- `IsMoment` as a test: whether the date that the number says is true.
unfoldable pub is_moment : ℕ → Bool
is_moment n = is_true (date_of n)

-- The number that a value of the type `Moment` holds.
abbrev pub number_in : Moment → ℕ
number_in m = m.number

-- The value of the type `Moment` that holds a number, where the number is a moment, and none for any other number.
abbrev pub moment_of : ℕ → Option Moment
moment_of n = cond (is_moment n) (Some record { number = n }) None
