use Rattle.std.proofs.Common.{sym, subst, arith}
use Rattle.clock.specs.Numbers.{numbers}
use Rattle.clock.specs.Waits.{IsPeriod, NoCycleLost}
use Rattle.clock.proofs.Periods.{is_period}
use Rattle.clock.proofs.Stands.{divides}
use Rattle.clock.proofs.Waiting.{no_cycle_lost}
use Rattle.clock.proofs.divider.Divider.period.Goals as goal

pub returns : goal.returns
returns c =
    let v = c.args.self.now in
    record {
      value = omega (arith, v.repeats);
      fewest = subst (IsPeriod (numbers v)) (sym v.repeats) (is_period (numbers v) (divides v));
      kept = subst (NoCycleLost (numbers v)) (sym v.repeats) (no_cycle_lost (numbers v) (divides v));
    }
