-- How DER writes a moment: UTCTime (X.680 47, X.690 11.8) and GeneralizedTime (X.680 46, X.690 11.7). Assumes nothing.
use Rattle.std.specs.Prelude.{◌≡◌, ℕ, zero, suc, ◌+◌, ◌-◌, ◌*◌, ◌/◌, ◌%◌, ◌^◌, ◌<◌, ◌≤◌, cond, ◌&&◌, List, [], ◌∷◌, ◌++◌, length, take, Some, None, Option, ◌==◌, nat_le, nat_lt, slice_index}
use Rattle.moment.specs.declared.Moment.{Moment}
use Rattle.moment.specs.Calendar.{IsMoment, is_moment, number_in}

-- The last k decimal digits of a number as ASCII octets, the most significant first: of a number below 10 ^ k, all.
unfoldable pub decimals : ℕ → ℕ → List ℕ
decimals zero n = []
decimals (suc k) n = decimals k (n / 10) ++ ((48 + n % 10) ∷ [])

-- The content of a GeneralizedTime: YYYYMMDDhhmmss and 'Z', with no fraction of a second (X.690 11.7).
pub record GeneralizedTime (c : List ℕ) (m : ℕ) : Type 0 where
  pub moment : IsMoment m
  pub content : c ≡ decimals 14 m ++ (90 ∷ [])

-- The content of a UTCTime: YYMMDDhhmmss and 'Z' (X.690 11.8). The two digits of the year stand for a year of 1950 to 2049,
-- as X.509 reads them.
pub record UtcTime (c : List ℕ) (m : ℕ) : Type 0 where
  pub moment : IsMoment m
  pub from : 19500000000000 ≤ m
  pub before : m < 20500000000000
  pub content : c ≡ decimals 12 (m % 10 ^ 12) ++ (90 ∷ [])

-- What decimal digits say, after a number that was read before them; none where an octet is no digit.
abbrev pub decimal_after : ℕ → List ℕ → Option ℕ
decimal_after n [] = Some n
decimal_after n (c ∷ cs) = cond (nat_le 48 c && nat_le c 57) (decimal_after (n * 10 + (c - 48)) cs) None

-- The number that k digits before a 'Z' say, where the octets are just that.
abbrev pub zulu_of : ℕ → List ℕ → Option ℕ
zulu_of k c = cond (length c == k + 1 && slice_index c k == 90) (decimal_after 0 (take k c)) None

-- YYMMDDhhmmss with its century: 19 where YY is 50 to 99, else 20.
abbrev pub with_century : ℕ → ℕ
with_century n = cond (nat_lt n 500000000000) (20000000000000 + n) (19000000000000 + n)

-- The same of a number that was read, if one was.
abbrev pub full_year : Option ℕ → Option ℕ
full_year None = None
full_year (Some n) = Some (with_century n)

-- A number that is a moment, and none for any other.
abbrev pub moment_at : ℕ → Option ℕ
moment_at n = cond (is_moment n) (Some n) None

-- The same of a number that was read, if one was.
abbrev pub moment_from : Option ℕ → Option ℕ
moment_from None = None
moment_from (Some n) = moment_at n

-- The moment that the content of a GeneralizedTime says, or none.
unfoldable pub generalized_of : List ℕ → Option ℕ
generalized_of c = moment_from (zulu_of 14 c)

-- The moment that the content of a UTCTime says, or none.
unfoldable pub utc_of : List ℕ → Option ℕ
utc_of c = moment_from (full_year (zulu_of 12 c))

-- The number of the moment in an answer, where there is one.
abbrev pub noted : Option Moment → Option ℕ
noted None = None
noted (Some m) = Some (number_in m)

-- No content is the UTCTime of two moments.
abbrev pub UtcOneMoment : Type 0
UtcOneMoment = (c : List ℕ) (m n : ℕ) → UtcTime c m → UtcTime c n → m ≡ n

-- No content is the GeneralizedTime of two moments.
abbrev pub GeneralizedOneMoment : Type 0
GeneralizedOneMoment = (c : List ℕ) (m n : ℕ) → GeneralizedTime c m → GeneralizedTime c n → m ≡ n

-- A content of the moment m that is read as m again, where no other content is one of m.
pub record OneContent (Time : List ℕ → ℕ → Type 0) (read : List ℕ → Option ℕ) (m : ℕ) : Type 0 where
  pub content : List ℕ
  pub written : Time content m
  pub read_back : read content ≡ Some m
  pub only : (c : List ℕ) → Time c m → c ≡ content

-- Every moment of the years 1950 to 2049 has one content as a UTCTime, and it is read as that moment.
abbrev pub UtcOneContent : Type 0
UtcOneContent = (m : ℕ) → IsMoment m → 19500000000000 ≤ m → m < 20500000000000 → OneContent UtcTime utc_of m

-- Every moment has one content as a GeneralizedTime, and it is read as that moment.
abbrev pub GeneralizedOneContent : Type 0
GeneralizedOneContent = (m : ℕ) → IsMoment m → OneContent GeneralizedTime generalized_of m
