use Rattle.std.proofs.Common.{◌≡◌, length, ◌∙◌, arith}
use Rattle.clock.specs.Registers274.{face}
use Rattle.clock.specs.declared.mm58274c.Running.{Running}
use Rattle.clock.proofs.Start274.{started}
use Rattle.clock.proofs.mm58274c.calendar.RunningCalendar15.from_face.Goals as goal

pub returns : goal.returns
unfolding face
returns c =
    let f = c.args.digits.now in
    let len : length c.args.digits.now ≡ 15 = omega arith in
    let t = c.in_ok-tenths.ensures in
    let s = c.in_ok-seconds.ensures in
    let m = c.in_ok-minutes.ensures in
    let h = c.in_ok-hour.ensures in
    let e = c.in_ok-date.ensures in
    let w = c.in_ok-weekday.ensures in
    let g = c.from-setting.ensures in
    let x : Running = record {
      tenths = c.in_ok-tenths.tenths;
      seconds = c.in_ok-seconds.seconds;
      minutes = c.in_ok-minutes.minutes;
      hour = c.in_ok-hour.hour;
      weekday = c.in_ok-weekday.weekday;
      date = c.in_ok-date.date;
      ranges = (omega arith, omega arith, omega arith, omega arith, omega arith);
    } in
    started f x len record {
      tenths = (t.0, t.1.0);
      seconds = (s.0, s.1.0, s.1.1);
      minutes = (m.0, m.1.0, m.1.1);
      hours = (h.0, h.3.0, h.3.1);
      pm = h.1 ∙ g.1;
      mode = h.2 ∙ g.2;
      day = (e.0, e.4.0.0, e.4.0.1);
      month = (e.1, e.4.1.0, e.4.1.1);
      year = (e.2, e.4.2.0, e.4.2.1);
      leap = e.3 ∙ g.0;
      weekday = (w.0, w.1.0);
    }
