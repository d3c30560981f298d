-- A moment as a date and a time of the day: RFC 3339, section 5.6, in UTC and to the millisecond, as IRCv3
-- server-time writes it. The calendar is Gregorian.
use Rattle.std.specs.Prelude.{◌≡◌, ℕ, zero, suc, ◌+◌, ◌-◌, ◌/◌, ◌%◌, nat_lt, true, false, ℤ, pos}
use Rattle.std.specs.Prelude.{◌<ℤ◌, ◌⊎◌, unsigned_abs, List, [], ◌∷◌, ◌++◌, codes}
use Rattle.jiff_core.specs.Calendar.{days_in_year, days_in_month}
use Rattle.jiff_core.specs.declared.civil.date.Date.{Date}

-- in which of some periods in a row a day falls, and its place there from 0: the days are counted from the first day
-- of the period `n`, a period `k` has `days k` days, and `more` periods may follow
unfoldable pub falls_in : (ℕ → ℕ) → ℕ → ℕ → ℕ → ℕ × ℕ
falls_in days zero n day = (n, day)
falls_in days (suc more) n day = elim (nat_lt day (days n)) [
  | true ↦ (n, day)
  | false ↦ falls_in days more (n + 1) (day - days n)
]

pub record CivilDate : Type 0 where
  pub year : ℕ
  pub month : ℕ
  pub day : ℕ

-- the year of a day number, and the place of the day in it. Day 0 is 1 January 1970
abbrev pub year_of : ℕ → ℕ × ℕ
year_of number = falls_in (λ year. days_in_year (pos year)) number 1970 number

-- the month of a year's day, both counted from 0, and the place of the day in it
abbrev pub month_of : ℕ → ℕ → ℕ × ℕ
month_of year day = falls_in (λ month. days_in_month (pos year) (month + 1)) 12 0 day

-- the date of a day number
unfoldable pub civil_date : ℕ → CivilDate
civil_date number =
    let year = year_of number in let month = month_of year.0 year.1 in
    record { year = year.0; month = month.0 + 1; day = month.1 + 1 }

-- the date is this one
pub record IsDateOf (civil : CivilDate) (date : Date) : Type 0 where
  pub year : date.year ≡ pos civil.year
  pub month : date.month ≡ civil.month
  pub day : date.day ≡ civil.day

-- two, three and four digits
abbrev pub two : ℕ → List ℕ
two n = (48 + n / 10) ∷ (48 + n % 10) ∷ []

abbrev pub three : ℕ → List ℕ
three n = (48 + n / 100) ∷ two (n % 100)

abbrev pub four : ℕ → List ℕ
four n = two (n / 100) ++ two (n % 100)

-- YYYY-MM-DD
abbrev pub date_text : CivilDate → List ℕ
date_text date = four date.year ++ (codes "-" ++ (two date.month ++ (codes "-" ++ two date.day)))

-- hh:mm:ss.sss of the milliseconds of a day
abbrev pub clock_text : ℕ → List ℕ
clock_text t = two (t / 3_600_000) ++ (codes ":"
    ++ (two (t / 60_000 % 60) ++ (codes ":" ++ (two (t / 1_000 % 60) ++ (codes "." ++ three (t % 1_000))))))

-- milliseconds since 1970, from there to the end of the year 9998
abbrev pub LiesOutside : ℤ → Type 0
LiesOutside milliseconds = (milliseconds <ℤ pos 0) ⊎ (pos 253370764799999 <ℤ milliseconds)

unfoldable pub time_text : ℤ → List ℕ
time_text milliseconds =
    let t = unsigned_abs milliseconds in
    date_text (civil_date (t / 86_400_000)) ++ (codes "T" ++ (clock_text (t % 86_400_000) ++ codes "Z"))
