-- What the registers of a running MM58274C show.
use Rattle.std.specs.Prelude.{ℕ, List}
use Rattle.clock.specs.Mm58274c as spec
use Rattle.clock.specs.Parts as parts
use Rattle.clock.specs.Hours as hours
use Rattle.clock.specs.declared.date.Date.{Date}
use Rattle.clock.specs.declared.hour.HourOfDay.{HourOfDay}
use Rattle.clock.specs.declared.mm58274c.Running.{Running}

abbrev pub dated : Date → parts.Date
dated d = (d.day, d.month, (d.leap, d.year))

abbrev pub hour : HourOfDay → ℕ
hour h = parts.hour_of (hours.mode24 h.hour) (hours.hours h.hour) (hours.is_pm h.hour)

abbrev pub counters : Running → spec.Counters
counters r = record {
  tenths = r.tenths;
  seconds = r.seconds;
  minutes = r.minutes;
  hours = hours.hours r.hour.hour;
  pm = hours.is_pm r.hour.hour;
  mode24 = hours.mode24 r.hour.hour;
  weekday = r.weekday;
  day = r.date.day;
  month = r.date.month;
  leap = r.date.leap;
  year = r.date.year;
}

-- the face that the registers show
unfoldable pub face : Running → List ℕ
face r = spec.shown (counters r)
