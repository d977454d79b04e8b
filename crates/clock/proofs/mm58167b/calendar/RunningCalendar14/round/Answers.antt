use Rattle.std.proofs.Common.{refl}
use Rattle.clock.proofs.Face167.{round_law}
use Rattle.clock.proofs.mm58167b.calendar.RunningCalendar14.round.Goals as goal

pub returns : goal.returns
returns c = record { value = refl; law = round_law }
