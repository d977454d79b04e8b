use Rattle.std.proofs.Common.{arith}
use Rattle.clock.specs.Numbers.{numbers}
use Rattle.clock.proofs.Passing.{passed_le}
use Rattle.clock.proofs.Stands.{divides}
use Rattle.clock.proofs.divider.Divider.passed.Goals as goal

pub overflow_cast-result : goal.overflow_cast-result
overflow_cast-result c = let v = c.args.self.now in omega (arith, passed_le (numbers v) (divides v) c.args.cycles)
