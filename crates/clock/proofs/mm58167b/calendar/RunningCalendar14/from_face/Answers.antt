use Rattle.std.proofs.Common.{◌≡◌, length, arith}
use Rattle.clock.specs.Registers167.{face}
use Rattle.clock.specs.declared.mm58167b.Running.{Running}
use Rattle.clock.proofs.Start167.{started}
use Rattle.clock.proofs.mm58167b.calendar.RunningCalendar14.from_face.Goals as goal

pub returns : goal.returns
unfolding face
returns c =
    let f = c.args.digits.now in
    let len : length c.args.digits.now ≡ 14 = omega arith in
    let t = c.in_ok-milliseconds.ensures in
    let b = c.in_ok-hundredths.ensures in
    let s = c.in_ok-seconds.ensures in
    let m = c.in_ok-minutes.ensures in
    let h = c.in_ok-hours.ensures in
    let w = c.in_ok-weekday.ensures in
    let e = c.in_ok-date.ensures in
    let x : Running = record {
      milliseconds = c.in_ok-milliseconds.milliseconds;
      hundredths = c.in_ok-hundredths.hundredths;
      seconds = c.in_ok-seconds.seconds;
      minutes = c.in_ok-minutes.minutes;
      hours = c.in_ok-hours.hours;
      weekday = c.in_ok-weekday.weekday;
      date = c.in_ok-date.date;
      part = (omega arith, omega arith);
      time = (omega arith, omega arith, omega arith);
      week = (omega arith, omega arith);
    } in
    started f x len record {
      milliseconds = (t.0, t.1.0);
      hundredths = (b.0, b.1.0, b.1.1);
      seconds = (s.0, s.1.0, s.1.1);
      minutes = (m.0, m.1.0, m.1.1);
      hours = (h.0, h.1.0, h.1.1);
      weekday = (w.0, w.1.0);
      day = (e.0, e.2.0.0, e.2.0.1);
      month = (e.1, e.2.1.0, e.2.1.1);
    }
