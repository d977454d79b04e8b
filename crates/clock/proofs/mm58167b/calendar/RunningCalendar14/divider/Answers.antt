use Rattle.std.proofs.Common.{sym, refl, lit<, lit≤}
use Rattle.clock.proofs.KnownDividers.{milliseconds_period, milliseconds_counted}
use Rattle.clock.proofs.mm58167b.calendar.RunningCalendar14.divider.Goals as goal

pub invariant_of-result : goal.invariant_of-result
invariant_of-result c = record { passes = lit< tt; counts = lit≤ tt; repeats = milliseconds_period }

pub returns : goal.returns
returns c = record { numbers = refl; period = sym milliseconds_period; steps = milliseconds_counted.2 }
