-- Many steps at once on the MM58167B: counter by counter, each by what the one below it carries.
use Rattle.std.proofs.Common.{◌≡◌, ℕ, ◌+◌, ◌-◌, ◌/◌, ◌%◌}
use Rattle.clock.specs.Times.{times}
use Rattle.clock.specs.Mm58167b.{Counters, InRange, shown, step}
use Rattle.clock.specs.Parts.{MonthDay, next_month_day}
use Rattle.clock.proofs.Cascade.{counter_into, counter_into_on}
use Rattle.clock.proofs.Dates.{dates}
use Rattle.clock.proofs.Years.{plain}
use Rattle.clock.proofs.Weeks.{year, week_on}
use Rattle.clock.proofs.FaceLaw.{layout_on}
use Rattle.clock.proofs.Face167.{week_and_date, nest, layout, range_ok}

-- e is c after n milliseconds, where z, a, b, k and days are what each counter carries into the next
pub record Counted (n z a b k days : ℕ) (c e : Counters) : Type 0 where
  pub milliseconds : e.milliseconds ≡ (c.milliseconds + n) % 10
  pub into_hundredths : z ≡ (c.milliseconds + n) / 10
  pub hundredths : e.hundredths ≡ (c.hundredths + z) % 100
  pub into_seconds : a ≡ (c.hundredths + z) / 100
  pub seconds : e.seconds ≡ (c.seconds + a) % 60
  pub into_minutes : b ≡ (c.seconds + a) / 60
  pub minutes : e.minutes ≡ (c.minutes + b) % 60
  pub into_hours : k ≡ (c.minutes + b) / 60
  pub hours : e.hours ≡ (c.hours + k) % 24
  pub into_days : days ≡ (c.hours + k) / 24
  pub weekday : e.weekday ≡ (c.weekday - 1 + days) % 7 + 1
  pub date : ◌≡◌ {A = MonthDay} (e.day, e.month, tt) (times days next_month_day (c.day, c.month, tt))

pub counted : (n z a b k days : ℕ) (c e : Counters) → InRange c → Counted n z a b k days c e → shown e ≡ times n step (shown c)
unfolding step
counted n z a b k days c e h t =
    let ok = range_ok c h in
    let d = week_on (dates plain) 1 6 year days c.weekday e.weekday (nest c).1.1.1.1.1.1 (nest e).1.1.1.1.1.1 h.weekday.0 h.weekday.1 t.weekday t.date in
    let g = counter_into_on 23 week_and_date k days c.hours e.hours (nest c).1.1.1.1.1 (nest e).1.1.1.1.1 h.hours ok.1.1.1.1.1 t.hours t.into_days d in
    let m = counter_into_on 59 (counter_into 23 week_and_date) b k c.minutes e.minutes (nest c).1.1.1.1 (nest e).1.1.1.1 h.minutes ok.1.1.1.1 t.minutes t.into_hours g in
    let s = counter_into_on 59 (counter_into 59 (counter_into 23 week_and_date)) a b c.seconds e.seconds (nest c).1.1.1 (nest e).1.1.1 h.seconds ok.1.1.1 t.seconds t.into_minutes m in
    let u = counter_into_on 99 (counter_into 59 (counter_into 59 (counter_into 23 week_and_date))) z a c.hundredths e.hundredths (nest c).1.1 (nest e).1.1 h.hundredths ok.1.1 t.hundredths t.into_seconds s in
    let f = counter_into_on 9 (counter_into 99 (counter_into 59 (counter_into 59 (counter_into 23 week_and_date)))) n z c.milliseconds e.milliseconds (nest c).1 (nest e).1 h.milliseconds ok.1 t.milliseconds t.into_hundredths u in
    layout_on layout n c e h f
