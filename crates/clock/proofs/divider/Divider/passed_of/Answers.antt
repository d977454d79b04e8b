use Rattle.std.proofs.Common.{arith}
use Rattle.clock.specs.Divider.{passed}
use Rattle.clock.proofs.divider.Divider.passed_of.Goals as goal

pub returns : goal.returns
unfolding passed
returns c = omega arith
