use Rattle.clock.proofs.Periods.{period_some}
use Rattle.clock.proofs.ticking.Ticking.started.Goals as goal

pub invariant_of-result : goal.invariant_of-result
invariant_of-result g c = record { below = period_some g.C.Calendar.numbers g.met.C.Calendar.divides }
