use Rattle.std.proofs.Common.{◌≡◌, ◌+◌, ◌-◌, ap, arith}
use Rattle.clock.specs.Parts.{days_before}
use Rattle.clock.proofs.Dates.{december, next_month}
use Rattle.clock.proofs.month.YearDay.at.Goals as goal

pub loop-month-init : goal.loop-month-init
unfolding days_before
loop-month-init c = omega arith

pub loop-month-preserved : goal.loop-month-preserved
loop-month-preserved c =
    let m = c.loop-month.month in
    let leap = c.args.leap in
    let n = next_month leap m (omega arith) in
    let e : c.loop-month.month + 1 - 1 ≡ c.loop-month.month = omega arith in
    let f = ap (λ x. days_before x leap) e in
    omega arith

pub overflow_cast-result-2 : goal.overflow_cast-result-2
overflow_cast-result-2 c = omega (arith, december c.args.leap c.loop-month.month c.loop-month.left (omega arith) (omega arith))

pub overflow_add-result-2 : goal.overflow_add-result-2
overflow_add-result-2 c = omega (arith, december c.args.leap c.loop-month.month c.loop-month.left (omega arith) (omega arith))

pub invariant_of-result-2 : goal.invariant_of-result-2
invariant_of-result-2 c =
    let l = december c.args.leap c.loop-month.month c.loop-month.left (omega arith) (omega arith) in
    record { dated = (omega arith, omega arith, omega arith, omega arith) }
