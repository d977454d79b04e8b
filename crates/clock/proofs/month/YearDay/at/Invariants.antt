use Rattle.std.proofs.Common.{◌≡◌, ◌+◌, ◌-◌}
use Rattle.clock.specs.Parts.{days_before}
use Rattle.clock.proofs.month.YearDay.at.Given as goal

-- the days of the months passed and those that are left make the place
abbrev pub invariant-loop-month : goal.invariant-loop-month
invariant-loop-month l = days_before (l.month - 1) l.leap + l.left ≡ l.place
