-- What the counters of an MM58167B show.
use Rattle.std.specs.Prelude.{ℕ, List}
use Rattle.clock.specs.Mm58167b as spec
use Rattle.clock.specs.Parts as parts
use Rattle.clock.specs.declared.month_day.MonthDay.{MonthDay}
use Rattle.clock.specs.declared.mm58167b.Running.{Running}

abbrev pub dated : MonthDay → parts.MonthDay
dated d = (d.day, d.month, tt)

abbrev pub counters : Running → spec.Counters
counters r = record {
  milliseconds = r.milliseconds;
  hundredths = r.hundredths;
  seconds = r.seconds;
  minutes = r.minutes;
  hours = r.hours;
  weekday = r.weekday;
  day = r.date.day;
  month = r.date.month;
}

-- the face that the counters show
unfoldable pub face : Running → List ℕ
face r = spec.shown (counters r)
