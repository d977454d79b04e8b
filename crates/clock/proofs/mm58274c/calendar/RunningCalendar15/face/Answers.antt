use Rattle.std.proofs.Common.{◌≡◌, ◌%◌, rules, arith}
use Rattle.clock.specs.Registers274.{counters, face}
use Rattle.clock.proofs.Face274.{lawful_shown}
use Rattle.clock.proofs.Start274.{running}
use Rattle.clock.proofs.mm58274c.calendar.RunningCalendar15.face.Goals as goal

pub returns : goal.returns
unfolding face
returns c =
    let s = c.args.self.now in
    let k = s.date.years.0 in
    let leap : s.date.leap % 4 ≡ s.date.leap = omega arith in
    rw (c.from.ensures, leap, c.hours.ensures, c.hours-2.ensures, c.is_pm.ensures, c.mode.ensures) (record { shows = search rules; lawful = lawful_shown (counters s) (running s) })
