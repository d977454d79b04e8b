-- The parts of a lawful face, by their digits.
use Rattle.std.specs.Prelude.{ℕ, ◌+◌, ◌*◌, ◌≤◌, Bool, false, ◌==◌}
use Rattle.clock.specs.Counter.{days_of}
use Rattle.clock.specs.Mm58274c.{HoursInRange}
use Rattle.clock.specs.declared.digits.TwoDigits.{TwoDigits}

-- the number that two digits show
abbrev pub number : TwoDigits → ℕ
number d = d.0 + 10 * d.1

-- decimal digits that show a number from first to last
abbrev pub Between : TwoDigits → ℕ → ℕ → Type 0
Between d first last = (d.0 ≤ 9) × (d.1 ≤ 9) × (first ≤ number d) × (number d ≤ last)

-- an hour under a mode
abbrev pub HourShown : TwoDigits → Bool → Bool → Type 0
HourShown hours pm mode24 = (hours.0 ≤ 9) × (hours.1 ≤ 9) × HoursInRange mode24 (number hours) pm

-- a date with its leap count
abbrev pub DateShown : TwoDigits → TwoDigits → TwoDigits → ℕ → Type 0
DateShown day month year leap =
    Between day 1 (days_of (number month) (leap == 0)) × Between month 1 12 × Between year 0 99 × (leap ≤ 3)

-- a day of a year
abbrev pub DayShown : TwoDigits → TwoDigits → Bool → Type 0
DayShown day month leap = Between day 1 (days_of (number month) leap) × Between month 1 12

-- a day of a year that is never a leap year
abbrev pub MonthDayShown : TwoDigits → TwoDigits → Type 0
MonthDayShown day month = DayShown day month false
