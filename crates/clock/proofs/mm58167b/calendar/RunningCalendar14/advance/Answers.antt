use Rattle.std.proofs.Common.{◌+◌, ap, arith}
use Rattle.clock.specs.Mm58167b.{Counters}
use Rattle.clock.specs.Registers167.{counters, face}
use Rattle.clock.proofs.Count167.{counted}
use Rattle.clock.proofs.Start167.{running}
use Rattle.clock.proofs.mm58167b.calendar.RunningCalendar14.advance.Goals as goal

pub returns : goal.returns
unfolding face
returns c =
    let s = c.args.self.now in
    let d = c.later.result in
    let e : Counters = record {
      milliseconds = c.turned-milliseconds.result.0;
      hundredths = c.turned-hundredths.result.0;
      seconds = c.turned-seconds.result.0;
      minutes = c.turned-minutes.result.0;
      hours = c.turned-hours.result.0;
      weekday = c.turned-weekday.result.0 + 1;
      day = d.day;
      month = d.month;
    } in
    counted c.args.steps c.turned-milliseconds.result.1 c.turned-hundredths.result.1 c.turned-seconds.result.1 c.turned-minutes.result.1 c.turned-hours.result.1 (counters s) e (running s)
    record {
      milliseconds = c.turned-milliseconds.ensures.0;
      into_hundredths = c.turned-milliseconds.ensures.1;
      hundredths = c.turned-hundredths.ensures.0;
      into_seconds = c.turned-hundredths.ensures.1;
      seconds = c.turned-seconds.ensures.0;
      into_minutes = c.turned-seconds.ensures.1;
      minutes = c.turned-minutes.ensures.0;
      into_hours = c.turned-minutes.ensures.1;
      hours = omega arith;
      into_days = c.turned-hours.ensures.1;
      weekday = ap (λ x. x + 1) c.turned-weekday.ensures.0;
      date = c.later.ensures;
    }
