use Rattle.std.proofs.Common.{◌/◌, ap}
use Rattle.clock.specs.Divider.{counted}
use Rattle.clock.proofs.divider.Divider.counted_of.Goals as goal

pub returns : goal.returns
unfolding counted
returns c = ap (λ x. x / c.args.self.now.k) c.passed_of.ensures
