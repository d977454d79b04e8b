use Rattle.std.proofs.Common.{◌*◌, ap, arith}
use Rattle.clock.specs.Divider.{period}
use Rattle.clock.proofs.divider.Divider.new.Goals as goal

pub invariant_of-result : goal.invariant_of-result
unfolding period
invariant_of-result c = record { passes = omega arith; counts = omega arith; repeats = ap (λ g. c.args.m * g) c.fewest_groups.ensures.is }
