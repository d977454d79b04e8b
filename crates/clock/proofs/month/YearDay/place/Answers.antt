use Rattle.std.proofs.Common.{◌≡◌, ◌+◌, ◌-◌, ◌≤◌, refl, ap, arith}
use Rattle.clock.specs.Parts.{days_before}
use Rattle.clock.proofs.Dates.{next_month, days_most, day_of_year_below}
use Rattle.clock.proofs.month.YearDay.place.Goals as goal

pub loop-past-init : goal.loop-past-init
unfolding days_before
loop-past-init c = (refl, omega arith)

pub loop-past-preserved : goal.loop-past-preserved
loop-past-preserved c =
    let p = c.loop-past.past in
    let leap = c.args.self.leap in
    let lo : 1 ≤ c.loop-past.past = omega arith in
    let n = next_month leap p lo in
    let d = days_most p leap in
    let e : c.loop-past.past + 1 - 1 ≡ c.loop-past.past = omega arith in
    let f = ap (λ x. days_before x leap) e in
    (omega arith, omega arith)

pub returns : goal.returns
returns c =
    let s = c.args.self in
    let b = day_of_year_below s.leap s.month s.day s.dated in
    let e : c.loop-past.past ≡ s.month = omega arith in
    let f = ap (λ x. days_before (x - 1) s.leap) e in
    (omega arith, omega arith)
