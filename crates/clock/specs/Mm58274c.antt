-- The MM58274C's face, its lawful faces and its step. A face is what a chip shows, one digit a column, lowest first;
-- a step is one count of the lowest counter, here a tenth of a second.
use Rattle.std.specs.Prelude.{◌≡◌, ℕ, ◌+◌, ◌*◌, ◌/◌, ◌%◌, ◌<◌, ◌≤◌, Bool, true, false, cond, not, ◌&&◌, List, [], ◌∷◌, length, ◌==◌, nat_eq, slice_index}
use Rattle.clock.specs.Counter.{after, days_of, number_at}

pub record Counters : Type 0 where
  pub tenths : ℕ
  pub seconds : ℕ
  pub minutes : ℕ
  pub hours : ℕ
  pub pm : Bool
  -- 24-hour mode
  pub mode24 : Bool
  pub weekday : ℕ
  pub day : ℕ
  pub month : ℕ
  -- the leap count: years since the last leap year
  pub leap : ℕ
  pub year : ℕ

-- the hours that a mode shows: 0 to 23, or 1 to 12
abbrev pub first_hour : Bool → ℕ
first_hour mode24 = cond mode24 0 1

abbrev pub top_hour : Bool → ℕ
top_hour mode24 = cond mode24 23 12

-- hours by mode, with PM off in 24-hour mode
abbrev pub HoursInRange : Bool → ℕ → Bool → Type 0
HoursInRange mode24 hours pm = (first_hour mode24 ≤ hours) × (hours ≤ top_hour mode24) × ((mode24 && pm) ≡ false)

-- every counter within its limits; February has 29 days when the leap count is 0
pub record InRange (c : Counters) : Type 0 where
  pub tenths : c.tenths ≤ 9
  pub seconds : c.seconds ≤ 59
  pub minutes : c.minutes ≤ 59
  pub hours : HoursInRange c.mode24 c.hours c.pm
  pub weekday : (1 ≤ c.weekday) × (c.weekday ≤ 7)
  pub month : (1 ≤ c.month) × (c.month ≤ 12)
  pub day : (1 ≤ c.day) × (c.day ≤ days_of c.month (c.leap == 0))
  pub leap : c.leap ≤ 3
  pub year : c.year ≤ 99

-- the hours, by mode: 23 goes to 0, or 12 to 1
abbrev pub hours_after : Bool → Bool → ℕ → ℕ
hours_after mode24 moves hours = after (first_hour mode24) (top_hour mode24) moves hours

-- in 12-hour mode 11 goes to 12 and turns AM and PM over
abbrev pub pm_after : Bool → Bool → ℕ → Bool → Bool
pm_after true moves hours pm = pm
pm_after false moves hours pm = cond (moves && hours == 11) (not pm) pm

-- the last hour of the day: 23, or 11 PM
abbrev pub last_hour : Bool → ℕ → Bool → Bool
last_hour true hours pm = hours == 23
last_hour false hours pm = hours == 11 && pm

-- One tenth on: each counter moves when all below it are at their end.
abbrev pub tick : Counters → Counters
tick c =
    let month_days = days_of c.month (c.leap == 0) in
    let second = nat_eq c.tenths 9 in
    let minute = second && nat_eq c.seconds 59 in
    let hour = minute && nat_eq c.minutes 59 in
    let midnight = hour && last_hour c.mode24 c.hours c.pm in
    let month_over = midnight && nat_eq c.day month_days in
    let year_over = month_over && nat_eq c.month 12 in
    record {
      tenths = after 0 9 true c.tenths;
      seconds = after 0 59 second c.seconds;
      minutes = after 0 59 minute c.minutes;
      hours = hours_after c.mode24 hour c.hours;
      pm = pm_after c.mode24 hour c.hours c.pm;
      mode24 = c.mode24;
      weekday = after 1 7 midnight c.weekday;
      day = after 1 month_days midnight c.day;
      month = after 1 12 month_over c.month;
      leap = after 0 3 year_over c.leap;
      year = after 0 99 year_over c.year;
    }

abbrev pub bit : Bool → ℕ
bit b = cond b 1 0

-- the setting register: the leap count in bits 3 and 2, PM in bit 1, 24-hour mode in bit 0
abbrev pub setting : ℕ → Bool → Bool → ℕ
setting leap pm mode24 = 4 * leap + 2 * bit pm + bit mode24

-- the face that the counters show: fourteen digits, addresses 1 to 14, and the setting register
abbrev pub shown : Counters → List ℕ
shown c =
    c.tenths
    ∷ c.seconds % 10 ∷ c.seconds / 10
    ∷ c.minutes % 10 ∷ c.minutes / 10
    ∷ c.hours % 10 ∷ c.hours / 10
    ∷ c.day % 10 ∷ c.day / 10
    ∷ c.month % 10 ∷ c.month / 10
    ∷ c.year % 10 ∷ c.year / 10
    ∷ c.weekday
    ∷ setting c.leap c.pm c.mode24 ∷ []

-- the counters that a face shows
abbrev pub read : List ℕ → Counters
read face = record {
  tenths = slice_index face 0;
  seconds = number_at face 1;
  minutes = number_at face 3;
  hours = number_at face 5;
  pm = (slice_index face 14 / 2 % 2 == 1);
  mode24 = (slice_index face 14 % 2 == 1);
  weekday = slice_index face 13;
  day = number_at face 7;
  month = number_at face 9;
  leap = slice_index face 14 / 4;
  year = number_at face 11;
}

-- a lawful face: fourteen decimal digits and a setting that show counters within their limits
pub record Lawful (face : List ℕ) : Type 0 where
  pub columns : length face ≡ 15
  pub decimal : (k : ℕ) → k < 14 → slice_index face k ≤ 9
  pub in_range : InRange (read face)

unfoldable pub step : List ℕ → List ℕ
step face = shown (tick (read face))
