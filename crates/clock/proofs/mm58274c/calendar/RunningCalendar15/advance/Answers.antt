use Rattle.std.proofs.Common.{◌+◌, ◌/◌, ◌%◌, ap, ◌∙◌, arith}
use Rattle.clock.specs.Hours as hour
use Rattle.clock.specs.Mm58274c.{Counters}
use Rattle.clock.specs.Registers274.{counters, face}
use Rattle.clock.proofs.Count274.{counted}
use Rattle.clock.proofs.Start274.{no_pm_in_24_hour_mode, running}
use Rattle.clock.proofs.mm58274c.calendar.RunningCalendar15.advance.Goals as goal

pub returns : goal.returns
unfolding face
returns c =
    let s = c.args.self.now in
    let at = c.at.result in
    let d = c.later.result in
    let e : Counters = record {
      tenths = c.turned-tenths.result.0;
      seconds = c.turned-seconds.result.0;
      minutes = c.turned-minutes.result.0;
      hours = hour.hours at.hour;
      pm = hour.is_pm at.hour;
      mode24 = hour.mode24 at.hour;
      weekday = c.turned-weekday.result.0 + 1;
      day = d.day;
      month = d.month;
      leap = d.leap;
      year = d.year;
    } in
    let mid = c.since_midnight.ensures.0 in
    counted c.args.steps c.turned-tenths.result.1 c.turned-seconds.result.1 c.turned-minutes.result.1 c.turned-hour.result.1 (counters s) e (running s)
    record {
      tenths = c.turned-tenths.ensures.0;
      into_seconds = c.turned-tenths.ensures.1;
      seconds = c.turned-seconds.ensures.0;
      into_minutes = c.turned-seconds.ensures.1;
      minutes = c.turned-minutes.ensures.0;
      into_hours = c.turned-minutes.ensures.1;
      hours = c.at.ensures.0 ∙ c.turned-hour.ensures.0 ∙ ap (λ x. (x + c.turned-minutes.result.1) % 24) mid;
      mode = c.at.ensures.1 ∙ c.mode.ensures;
      fits = (at.shown.0, at.shown.1, no_pm_in_24_hour_mode at.hour);
      into_days = c.turned-hour.ensures.1 ∙ ap (λ x. (x + c.turned-minutes.result.1) / 24) mid;
      weekday = omega arith;
      date = c.later.ensures;
    }
