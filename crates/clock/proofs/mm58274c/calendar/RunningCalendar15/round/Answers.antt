use Rattle.std.proofs.Common.{refl}
use Rattle.clock.proofs.Face274.{round_law}
use Rattle.clock.proofs.mm58274c.calendar.RunningCalendar15.round.Goals as goal

pub returns : goal.returns
returns c = record { value = refl; law = round_law }
