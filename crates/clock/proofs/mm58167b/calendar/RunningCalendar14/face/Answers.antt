use Rattle.std.proofs.Common.{rules}
use Rattle.clock.specs.Registers167.{counters, face}
use Rattle.clock.proofs.Face167.{lawful_shown}
use Rattle.clock.proofs.Start167.{running}
use Rattle.clock.proofs.mm58167b.calendar.RunningCalendar14.face.Goals as goal

pub returns : goal.returns
unfolding face
returns c =
    let s = c.args.self.now in
    record { shows = search rules; lawful = lawful_shown (counters s) (running s) }
