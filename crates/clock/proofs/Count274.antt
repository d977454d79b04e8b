-- Many steps at once on the MM58274C: counter by counter, each by what the one below it carries.
use Rattle.std.proofs.Common.{◌≡◌, ℕ, ◌+◌, ◌-◌, ◌/◌, ◌%◌, sym, ap, ◌∙◌}
use Rattle.clock.specs.Times.{times}
use Rattle.clock.specs.Mm58274c.{Counters, InRange, HoursInRange, shown, step, last_hour}
use Rattle.clock.specs.Parts.{Date, next_date, hour_of}
use Rattle.clock.proofs.Rolling.{run, lands}
use Rattle.clock.proofs.Cascade.{counter_into, counter_into_on, cascade_run}
use Rattle.clock.proofs.Dates.{dates}
use Rattle.clock.proofs.Years.{century}
use Rattle.clock.proofs.Weeks.{hundred_years, week_on}
use Rattle.clock.proofs.Hours.{hours, hours_end}
use Rattle.clock.proofs.FaceLaw.{layout_on}
use Rattle.clock.proofs.Face274.{week_and_date, day_and_hours, nest, layout, range_ok}

-- e is c after n tenths, where a, b, k and days are what the tenths, seconds, minutes and hours carry
pub record Counted (n a b k days : ℕ) (c e : Counters) : Type 0 where
  pub tenths : e.tenths ≡ (c.tenths + n) % 10
  pub into_seconds : a ≡ (c.tenths + n) / 10
  pub seconds : e.seconds ≡ (c.seconds + a) % 60
  pub into_minutes : b ≡ (c.seconds + a) / 60
  pub minutes : e.minutes ≡ (c.minutes + b) % 60
  pub into_hours : k ≡ (c.minutes + b) / 60
  pub hours : hour_of e.mode24 e.hours e.pm ≡ (hour_of c.mode24 c.hours c.pm + k) % 24
  pub mode : e.mode24 ≡ c.mode24
  pub fits : HoursInRange e.mode24 e.hours e.pm
  pub into_days : days ≡ (hour_of c.mode24 c.hours c.pm + k) / 24
  pub weekday : e.weekday ≡ (c.weekday - 1 + days) % 7 + 1
  pub date : ◌≡◌ {A = Date} (e.day, e.month, (e.leap, e.year)) (times days next_date (c.day, c.month, (c.leap, c.year)))

pub counted : (n a b k days : ℕ) (c e : Counters) → InRange c → Counted n a b k days c e → shown e ≡ times n step (shown c)
unfolding step
counted n a b k days c e h t =
    let ok = range_ok c h in
    let d = week_on (dates century) 6 1 hundred_years days c.weekday e.weekday (nest c).1.1.1.1.1 (nest e).1.1.1.1.1 h.weekday.0 h.weekday.1 t.weekday t.date in
    let g : (nest e).1.1.1 ≡ run day_and_hours k (nest c).1.1.1 =
    (λ i. (lands hours k (nest c).1.1.1.0 (nest e).1.1.1.0 h.hours t.fits t.hours t.mode i, (d ∙ ap (λ x. run week_and_date x (nest c).1.1.1.1) t.into_days) i))
    ∙ sym (cascade_run hours (λ p. last_hour p.2 p.0 p.1) hours_end week_and_date k (nest c).1.1.1.0 (nest c).1.1.1.1 h.hours ok.1.1.1.1) in
    let m = counter_into_on 59 day_and_hours b k c.minutes e.minutes (nest c).1.1.1 (nest e).1.1.1 h.minutes ok.1.1.1 t.minutes t.into_hours g in
    let s = counter_into_on 59 (counter_into 59 day_and_hours) a b c.seconds e.seconds (nest c).1.1 (nest e).1.1 h.seconds ok.1.1 t.seconds t.into_minutes m in
    let f = counter_into_on 9 (counter_into 59 (counter_into 59 day_and_hours)) n a c.tenths e.tenths (nest c).1 (nest e).1 h.tenths ok.1 t.tenths t.into_seconds s in
    layout_on layout n c e h f
