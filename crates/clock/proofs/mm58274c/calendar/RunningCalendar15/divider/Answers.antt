use Rattle.std.proofs.Common.{sym, refl, lit<, lit≤}
use Rattle.clock.proofs.KnownDividers.{tenths_period, tenths_counted}
use Rattle.clock.proofs.mm58274c.calendar.RunningCalendar15.divider.Goals as goal

pub invariant_of-result : goal.invariant_of-result
invariant_of-result c = record { passes = lit< tt; counts = lit≤ tt; repeats = tenths_period }

pub returns : goal.returns
returns c = record { numbers = refl; period = sym tenths_period; steps = tenths_counted.2 }
