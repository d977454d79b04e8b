use Rattle.std.proofs.Common.{subst, arith}
use Rattle.clock.specs.Parts.{Dated}
use Rattle.clock.proofs.Later.{month_day_later}
use Rattle.clock.proofs.month_day.MonthDay.later.Goals as goal

pub returns : goal.returns
returns c =
    let s = c.args.self in
    let on = c.at-on.result in
    month_day_later c.args.days s.day s.month on.day on.month
    (s.months.0, s.months.1, s.days.0, s.days.1) (subst (λ leap. Dated leap on.month on.day) c.at-on.ensures.0 on.dated) (omega arith)
