use Rattle.std.proofs.Common.{◌≡◌, ◌-◌, ◌*◌, ◌≤◌}
use Rattle.clock.specs.Parts.{days_before}
use Rattle.clock.proofs.month.YearDay.place.Given as goal

abbrev pub invariant-loop-past : goal.invariant-loop-past
invariant-loop-past l = (l.days ≡ days_before (l.past - 1) l.self.leap) × (l.days ≤ 31 * (l.past - 1))
