-- The MM58167B's face, its lawful faces and its step. A face is what a chip shows, one digit a column, lowest first;
-- a step is one count of the lowest counter, here a millisecond.
use Rattle.std.specs.Prelude.{◌≡◌, ℕ, ◌/◌, ◌%◌, ◌<◌, ◌≤◌, true, false, ◌&&◌, List, [], ◌∷◌, length, nat_eq, slice_index}
use Rattle.clock.specs.Counter.{after, days_of, number_at}

pub record Counters : Type 0 where
  pub milliseconds : ℕ
  pub hundredths : ℕ
  pub seconds : ℕ
  pub minutes : ℕ
  pub hours : ℕ
  pub weekday : ℕ
  pub day : ℕ
  pub month : ℕ

-- every counter within its limits; there is no leap year
pub record InRange (c : Counters) : Type 0 where
  pub milliseconds : c.milliseconds ≤ 9
  pub hundredths : c.hundredths ≤ 99
  pub seconds : c.seconds ≤ 59
  pub minutes : c.minutes ≤ 59
  pub hours : c.hours ≤ 23
  pub weekday : (1 ≤ c.weekday) × (c.weekday ≤ 7)
  pub month : (1 ≤ c.month) × (c.month ≤ 12)
  pub day : (1 ≤ c.day) × (c.day ≤ days_of c.month false)

-- One millisecond on: each counter moves when all below it are at their end.
abbrev pub tick : Counters → Counters
tick c =
    let month_days = days_of c.month false in
    let hundredth = nat_eq c.milliseconds 9 in
    let second = hundredth && nat_eq c.hundredths 99 in
    let minute = second && nat_eq c.seconds 59 in
    let hour = minute && nat_eq c.minutes 59 in
    let midnight = hour && nat_eq c.hours 23 in
    let month_over = midnight && nat_eq c.day month_days in
    record {
      milliseconds = after 0 9 true c.milliseconds;
      hundredths = after 0 99 hundredth c.hundredths;
      seconds = after 0 59 second c.seconds;
      minutes = after 0 59 minute c.minutes;
      hours = after 0 23 hour c.hours;
      weekday = after 1 7 midnight c.weekday;
      day = after 1 month_days midnight c.day;
      month = after 1 12 month_over c.month;
    }

-- the face that the counters show: the digits of addresses 0 to 7, low half first
abbrev pub shown : Counters → List ℕ
shown c =
    c.milliseconds
    ∷ c.hundredths % 10 ∷ c.hundredths / 10
    ∷ c.seconds % 10 ∷ c.seconds / 10
    ∷ c.minutes % 10 ∷ c.minutes / 10
    ∷ c.hours % 10 ∷ c.hours / 10
    ∷ c.weekday
    ∷ c.day % 10 ∷ c.day / 10
    ∷ c.month % 10 ∷ c.month / 10 ∷ []

-- the counters that a face shows
abbrev pub read : List ℕ → Counters
read face = record {
  milliseconds = slice_index face 0;
  hundredths = number_at face 1;
  seconds = number_at face 3;
  minutes = number_at face 5;
  hours = number_at face 7;
  weekday = slice_index face 9;
  day = number_at face 10;
  month = number_at face 12;
}

-- a lawful face: fourteen decimal digits that show counters within their limits
pub record Lawful (face : List ℕ) : Type 0 where
  pub columns : length face ≡ 14
  pub decimal : (k : ℕ) → k < 14 → slice_index face k ≤ 9
  pub in_range : InRange (read face)

unfoldable pub step : List ℕ → List ℕ
step face = shown (tick (read face))
