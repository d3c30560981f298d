-- The day number of a date tells the date, and so does a moment.
use Rattle.std.proofs.Common.{◌≡◌, ℕ, zero, suc, ◌+◌, ◌-◌, ◌<◌, ◌≤◌, inl, inr, nat_lt, true, false, refl}
use Rattle.std.proofs.Common.{ap, sym, subst, ◌∙◌, arith, ℤ, pos, negsuc, neg_ℤ, ◌≤ℤ◌, ◌*ℤ◌, ◌/◌}
use Rattle.std.proofs.lemmas.Bool.{cases_lt}
use Rattle.std.proofs.lemmas.Bool.Decides.{nat_tests}
use Rattle.jiff_core.specs.Calendar.{days_in_year, days_in_month, days_of_months, day_of_year}
use Rattle.jiff_core.specs.Calendar.{day_count, days_from_civil, IsCivilDate}
use Rattle.jiff_core.specs.Date.{epoch_day}
use Rattle.jiff_core.specs.DateTime.{civil_nanos}
use Rattle.jiff_core.specs.declared.civil.date.Date.{Date}
use Rattle.jiff_core.specs.declared.civil.datetime.DateTime.{DateTime}
use Rattle.jiff_core.proofs.SignedLemmas.{signed_arith}
use Rattle.jiff_core.proofs.CalendarLemmas.{day_count-epoch, days_from_civil-day_count}
use Rattle.jiff_core.proofs.CalendarLemmas.{days_in_year_bounds, days_in_month_bounds}
use Rattle.jiff_core.proofs.CalendarLemmas.{days_of_months-zero, days_of_months_more}
use Rattle.jiff_core.proofs.CalendarLemmas.{day_of_year_bound, day_count-day_of_year}
use Rattle.jiff_core.proofs.CalendarLemmas.{day_count-next_year, day_count-later_year}
use Rattle.jiff_core.proofs.DateLemmas.{civil}
use Rattle.jiff_core.proofs.DateTimeLemmas.{civil_nanos-parts, time_nanos_bound}
use Rattle.numerics.specs.CivilTime.{falls_in, CivilDate, year_of, month_of, civil_date, IsDateOf}

-- ---- periods in a row

-- `total n` days come before period n, which has `days n`
record Counts (days total : ℕ → ℕ) : Type 0 where
  step : (n : ℕ) → total (n + 1) ≡ total n + days n
  some : (n : ℕ) → 1 ≤ days n

falls-here : (days : ℕ → ℕ) (more n day : ℕ) → day < days n → falls_in days more n day ≡ (n, day)
unfolding falls_in
falls-here days zero n day h = refl
falls-here days (suc more) n day h = let e : nat_lt day (days n) ≡ true = grind (arith, nat_tests) in
    rw (e, falls_in) refl

falls-later : (days : ℕ → ℕ) (more n day : ℕ) → days n ≤ day → falls_in days (suc more) n day
    ≡ falls_in days more (n + 1) (day - days n)
unfolding falls_in
falls-later days more n day h = let e : nat_lt day (days n) ≡ false = grind (arith, nat_tests) in rw (e, falls_in) refl

total-add : (days total : ℕ → ℕ) → Counts days total → (k n : ℕ) → total n + k ≤ total (n + k)
total-add days total c zero n = let same : n + zero ≡ n = omega arith in rw same (omega arith)
total-add days total c (suc k) n =
    let next : n + suc k ≡ (n + 1) + k = omega arith in
    rw next (omega (arith, total-add days total c k (n + 1), c.step n, c.some n))

falls-at : (days total : ℕ → ℕ) → Counts days total → (k more n day r : ℕ) → total (n + k) + r ≡ total n + day
    → r < days (n + k) → k ≤ more → falls_in days more n day ≡ (n + k, r)
falls-at days total c zero more n day r sum within few =
    let same : n + zero ≡ n = omega arith in
    let is : day ≡ r = omega (arith, rw same at sum) in
    let within' : day < days n = omega (arith, rw same at within, is) in
    falls-here days more n day within' ∙ ap (λ m. (m, day)) (sym same) ∙ ap (λ d. (n + zero, d)) is
falls-at days total c (suc k) zero n day r sum within few = absurd (omega arith)
falls-at days total c (suc k) (suc more) n day r sum within few =
    let next : n + suc k ≡ (n + 1) + k = omega arith in
    let sum' = rw next at sum in
    let past : days n ≤ day = omega (arith, sum', total-add days total c k (n + 1), c.step n) in
    let rest : total ((n + 1) + k) + r ≡ total (n + 1) + (day - days n) = omega (arith, sum', c.step n, past) in
    falls-later days more n day past ∙ falls-at days total c k more (n + 1) (day - days n) r rest
    (rw next at within) (omega arith) ∙ ap (λ m. (m, r)) (sym next)

-- ---- years and months

years : Counts (λ year. days_in_year (pos year)) (λ year. day_count (pos year) 1 1)
years = record {
  step = λ n. day_count-next_year (pos n) (pos (n + 1)) (omega (arith, signed_arith)) (omega (arith, signed_arith));
  some = λ n. omega (arith, (days_in_year_bounds (pos n)).1);
}

months : (year : ℕ) → Counts (λ month. days_in_month (pos year) (month + 1)) (λ month. days_of_months (pos year) month)
months year = record {
  step = λ n.
      (let back : n + 1 - 1 ≡ n = omega arith in rw back at (days_of_months_more (pos year) (n + 1) (omega arith)));
  some = λ n. omega (arith, (days_in_month_bounds (pos year) (n + 1)).1);
}

abbrev of_month : ℕ → ℕ × ℕ → CivilDate
of_month year month = record { year = year; month = month.0 + 1; day = month.1 + 1 }

abbrev of_year : ℕ × ℕ → CivilDate
of_year year = of_month year.0 (month_of year.0 year.1)

month_falls : (year month day place : ℕ) → 1 ≤ month → month ≤ 12 → 1 ≤ day → day ≤ days_in_month (pos year) month
    → place + 1 ≡ day_of_year (pos year) month day → month_of year place ≡ (month - 1, day - 1)
month_falls year month day place low high first last is =
    let before : ℕ = month - 1 in
    let none : 0 + before ≡ before = omega arith in
    let again : before + 1 ≡ month = omega arith in
    let sum : days_of_months (pos year) (0 + before) + (day - 1)
    ≡ days_of_months (pos year) 0 + place = rw none (omega (arith, days_of_months-zero (pos year), is)) in
    let within : day - 1 < days_in_month (pos year) (0 + before + 1) = rw (none, again) (omega arith) in
    falls-at (λ m. days_in_month (pos year) (m + 1)) (λ m. days_of_months (pos year) m)
    (months year) before 12 0 place (day - 1) sum within (omega arith) ∙ ap (λ m. (m, day - 1)) none

year_falls : (number k place : ℕ) → day_count (pos (1970 + k)) 1 1 + place ≡ number + 4_371_953
    → place < days_in_year (pos (1970 + k)) → year_of number ≡ (1970 + k, place)
year_falls number k place sum within =
    falls-at (λ y. days_in_year (pos y)) (λ y. day_count (pos y) 1 1) years k number 1970 number place
    (omega (arith, sum, day_count-epoch)) within (omega (
      arith,
      sum,
      day_count-epoch,
      total-add
          (λ y. days_in_year (pos y)) (λ y. day_count (pos y) 1 1) years k 1970,
    ))

civil_date_is : (number k month day : ℕ) → IsCivilDate (pos (1970 + k)) month day
    → day_count (pos (1970 + k)) month day ≡ number + 4_371_953 → civil_date number
    ≡ record { year = 1970 + k; month = month; day = day }
unfolding civil_date
civil_date_is number k month day is count =
    let year = 1970 + k in
    let place : ℕ = day_of_year (pos year) month day - 1 in
    let again : place + 1 ≡ day_of_year (pos year) month day = omega (arith, is.2) in
    let sum : day_count (pos year) 1 1 + place
    ≡ number + 4_371_953 = omega (arith, again, count, day_count-day_of_year (pos year) month day is.2.0) in
    let within : place < days_in_year (pos year) = omega (arith, again, day_of_year_bound (pos year) month day is) in
    let month_is : month - 1 + 1 ≡ month = omega (arith, is.1) in
    let day_is : day - 1 + 1 ≡ day = omega (arith, is.2) in
    ap of_year (year_falls number k place sum within) ∙ ap (of_month year)
    (month_falls year month day place is.1.0 is.1.1 is.2.0 is.2.1 again) ∙ rw (month_is, day_is) refl

-- ---- a date

since_1970 : (year : ℤ) (number place : ℕ) → neg_ℤ (pos 10000) ≤ℤ year → day_count year 1 1 + place
    ≡ number + 4_371_954 → place ≤ days_in_year year → (k : ℕ) × (year ≡ pos (1970 + k))
since_1970 (pos y) number place low sum within =
    elim (cases_lt y 1970) [
      | inl early ↦ absurd (omega (
        arith,
        sum,
        within,
        day_count-epoch,
        day_count-later_year (pos y) (pos 1970) low (omega (arith, signed_arith)),
      ))
      | inr late ↦ (y - 1970, ap pos (omega arith))
    ]
since_1970 (negsuc y) number place low sum within =
    absurd (omega (
      arith,
      sum,
      within,
      day_count-epoch,
      day_count-later_year (negsuc y) (pos 1970) low
          (omega (arith, signed_arith)),
    ))

date_since : (number k : ℕ) (year : ℤ) (month day : ℕ) → year ≡ pos (1970 + k) → IsCivilDate year month day
    → day_count year month day ≡ number + 4_371_953 → (year ≡ pos (civil_date number).year)
    × (month ≡ (civil_date number).month) × (day ≡ (civil_date number).day)
date_since number k year month day e is count =
    let same = civil_date_is number k month day (subst (λ y. IsCivilDate y month day) e is)
    (subst (λ y. day_count y month day ≡ number + 4_371_953) e count) in
    (e ∙ ap (λ c. pos c.year) (sym same), ap (λ c. c.month) (sym same), ap (λ c. c.day) (sym same))

date_at : (number : ℕ) (year : ℤ) (month day : ℕ) → IsCivilDate year month day → days_from_civil year month day
    ≡ pos number → (year ≡ pos (civil_date number).year) × (month ≡ (civil_date number).month)
    × (day ≡ (civil_date number).day)
date_at number year month day is e =
    let count : day_count year month day
    ≡ number + 4_371_953 = omega (arith, signed_arith, rw e at (days_from_civil-day_count year month day)) in
    let since = since_1970 year number (day_of_year year month day) (omega (arith, signed_arith, is.0))
    (omega (arith, count, day_count-day_of_year year month day is.2.0)) (day_of_year_bound year month day is) in
    date_since number since.0 year month day since.1 is count

date_of_day : (number : ℕ) (d : Date) → epoch_day d ≡ pos number → IsDateOf (civil_date number) d
date_of_day number d e =
    let parts = date_at number d.year d.month d.day (civil d) e in
    record { year = parts.0; month = parts.1; day = parts.2 }

pub date_of_moment : (milliseconds : ℕ) (dt : DateTime) → civil_nanos dt ≡ pos milliseconds *ℤ pos 1_000_000
    → IsDateOf (civil_date (milliseconds / 86_400_000)) dt.date
date_of_moment milliseconds dt e =
    date_of_day (milliseconds / 86_400_000) dt.date
    (omega (arith, signed_arith, e, civil_nanos-parts dt, time_nanos_bound dt.time))
