-- Parts of a step, for the code that counts many at once: the hour of the day, the date one day on, the place of a day in its year.
use Rattle.std.specs.Prelude.{ℕ, zero, suc, ◌+◌, ◌-◌, ◌%◌, ◌≤◌, Bool, true, false, cond, ◌&&◌, ◌==◌, nat_eq}
use Rattle.clock.specs.Counter.{after, days_of}

-- the hour of the day by mode: 12 AM is 0 and 12 PM is 12
abbrev pub hour_of : Bool → ℕ → Bool → ℕ
hour_of true hours pm = hours
hour_of false hours pm = hours % 12 + cond pm 12 0

-- day and month of a year without leap years; there is no year counter
abbrev pub MonthDay : Type 0
MonthDay = ℕ × ℕ × Unit {0}

abbrev pub next_month_day : MonthDay → MonthDay
next_month_day p =
    let month_days = days_of p.1 false in
    (after 1 month_days true p.0, after 1 12 (p.0 == month_days) p.1, tt)

-- day, month, and the leap count beside the year
abbrev pub Date : Type 0
Date = ℕ × ℕ × (ℕ × ℕ)

abbrev pub next_date : Date → Date
next_date p =
    let month_days = days_of p.1 (p.2.0 == 0) in
    let month_over = nat_eq p.0 month_days in
    let year_over = month_over && nat_eq p.1 12 in
    (after 1 month_days true p.0, after 1 12 month_over p.1, (after 0 3 year_over p.2.0, after 0 99 year_over p.2.1))

-- the days of the first k months
unfoldable pub days_before : ℕ → Bool → ℕ
days_before zero leap = 0
days_before (suc k) leap = days_before k leap + days_of (suc k) leap

abbrev pub year_days : Bool → ℕ
year_days leap = cond leap 366 365

-- day and month are in range
abbrev pub Dated : Bool → ℕ → ℕ → Type 0
Dated leap month day = (1 ≤ month) × (month ≤ 12) × (1 ≤ day) × (day ≤ days_of month leap)

-- the place of a day in its year, from 0
abbrev pub day_of_year : Bool → ℕ → ℕ → ℕ
day_of_year leap month day = days_before (month - 1) leap + (day - 1)
