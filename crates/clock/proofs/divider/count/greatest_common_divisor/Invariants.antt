use Rattle.std.proofs.Common.{ℕ, ◌↔◌}
use Prim.Native.Nat.{◌∣◌}
use Rattle.clock.proofs.divider.count.greatest_common_divisor.Given as goal

-- what divides x and y is what divides a and b
abbrev pub invariant-loop-y : goal.invariant-loop-y
invariant-loop-y l = (d : ℕ) → ((d ∣ l.x) × (d ∣ l.y)) ↔ ((d ∣ l.a) × (d ∣ l.b))

abbrev pub decreases-loop-y : goal.decreases-loop-y
decreases-loop-y l = l.y
