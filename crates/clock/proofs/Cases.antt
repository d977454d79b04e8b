-- The worked cases: single steps by computing, a hundred years by the law.
use Rattle.std.proofs.Common.{◌≡◌, ◌*◌, set, sym, refl, ap, ◌∙◌, arith}
use Rattle.clock.specs.Times.{times}
use Rattle.clock.specs.Cases.{WorkedCases}
use Rattle.clock.specs.Parts.{Date, next_date}
use Rattle.clock.specs.Mm58274c.{Counters, InRange, shown, read, step}
use Rattle.clock.proofs.Rolling.{met}
use Rattle.clock.proofs.Dates.{dates, OkDate}
use Rattle.clock.proofs.Years.{century}
use Rattle.clock.proofs.Hours.{hours}
use Rattle.clock.proofs.Face274.{shown_read}
use Rattle.clock.proofs.Count274.{counted}
use Rattle.clock.proofs.KnownDividers.{tenths_counted, milliseconds_counted}

start : (p : Date) → p ≡ times 0 next_date p
unfolding times
start p = refl

-- 36,525 days bring the date and the year back
date_back : (p : Date) → OkDate century p → p ≡ times 36525 next_date p
date_back p h = start p ∙ met (dates century) 0 36525 p h refl

hundred : (c : Counters) → InRange c → c.weekday ≡ 1 → times (36525 * 864000) step (shown c) ≡ set (shown c) 13 7
hundred c h w =
    let e : Counters = record {
      tenths = c.tenths;
      seconds = c.seconds;
      minutes = c.minutes;
      hours = c.hours;
      pm = c.pm;
      mode24 = c.mode24;
      weekday = 7;
      day = c.day;
      month = c.month;
      leap = c.leap;
      year = c.year;
    } in
    let o = hours.below (c.hours, c.pm, c.mode24) h.hours in
    let t = h.tenths in
    let s = h.seconds in
    let m = h.minutes in
    sym (counted 31557600000 3155760000 52596000 876600 36525 c e h record {
      tenths = omega arith;
      into_seconds = omega arith;
      seconds = omega arith;
      into_minutes = omega arith;
      minutes = omega arith;
      into_hours = omega arith;
      hours = omega arith;
      mode = refl;
      fits = h.hours;
      into_days = omega arith;
      weekday = omega arith;
      date = date_back (c.day, c.month, (c.leap, c.year)) ((h.month.0, h.month.1, h.day.0, h.day.1), (h.leap, h.year));
    })

pub worked_cases_lem : WorkedCases 36525
unfolding step
worked_cases_lem = record {
  no_tenth_in_3275_cycles = tenths_counted.0;
  one_tenth_in_3276_cycles = tenths_counted.1;
  ten_tenths_in_32768_cycles = tenths_counted.3;
  three_milliseconds_in_130_cycles = milliseconds_counted.0;
  four_milliseconds_in_131_cycles = milliseconds_counted.1;
  a_thousand_milliseconds_in_32768_cycles = milliseconds_counted.3;
  leap_count_0_gives_29_February = refl;
  leap_count_1_gives_1_March = refl;
  year_99_gives_1_January_00_with_leap_count_0 = refl;
  eleven_PM_on_day_7_gives_twelve_AM_on_day_1 = refl;
  twelve_PM_gives_one_PM = refl;
  after_a_hundred_years_weekday_1_is_7 = λ f h w.
      let s = shown_read f h in
      ap (times (36525 * 864000) step) s ∙ hundred (read f) h.in_range w ∙ sym (ap (λ g. set g 13 7) s);
}
