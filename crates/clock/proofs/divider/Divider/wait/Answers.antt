use Rattle.std.proofs.Common.{◌+◌, ◌%◌, ◌<◌, ap, mod-lt, arith, rules}
use Rattle.clock.specs.Divider.{stepped}
use Rattle.clock.specs.Numbers.{numbers}
use Rattle.clock.proofs.Passing.{counted_mono, stepped_le}
use Rattle.clock.proofs.Periods.{period_some}
use Rattle.clock.proofs.Stands.{divides}
use Rattle.clock.proofs.divider.Divider.wait.Goals as goal

pub overflow_sub-steps : goal.overflow_sub-steps
overflow_sub-steps c =
    let v = c.args.self.now in
    omega (arith, counted_mono (numbers v) (divides v) c.args.held (c.args.held + c.args.cycles) (omega arith))

pub overflow_cast-result : goal.overflow_cast-result
unfolding stepped
overflow_cast-result c = let v = c.args.self.now in omega (arith, stepped_le (numbers v) (divides v) c.args.held c.args.cycles)

pub nonzero_rem-result : goal.nonzero_rem-result
nonzero_rem-result c = let v = c.args.self.now in omega (arith, v.repeats, period_some (numbers v) (divides v))

pub overflow_cast-result-3 : goal.overflow_cast-result-3
overflow_cast-result-3 c =
    let v = c.args.self.now in
    let some : 0 < v.period = omega (arith, v.repeats, period_some (numbers v) (divides v)) in
    omega (arith, mod-lt (c.args.held + c.args.cycles) some)

pub returns : goal.returns
unfolding stepped
returns c = record { steps = search rules; held = ap (λ p. (c.args.held + c.args.cycles) % p) c.args.self.now.repeats }
