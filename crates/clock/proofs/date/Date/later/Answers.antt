use Rattle.std.proofs.Common.{◌+◌, ◌/◌, ◌%◌, subst, arith}
use Rattle.clock.specs.Parts.{Dated}
use Rattle.clock.proofs.Later.{date_later}
use Rattle.clock.proofs.date.Date.later.Goals as goal

pub returns : goal.returns
returns c =
    let s = c.args.self in
    let on = c.at-on.result in
    let p = c.since_leap.result + c.place.result + c.args.days % 36525 in
    date_later c.args.days s.day s.month s.leap s.year p on.day on.month (c.saturating_sub-leap.result / 365)
    (s.months.0, s.months.1, s.days.0, s.days.1) s.years (subst (λ leap. Dated leap on.month on.day) c.at-on.ensures.0 on.dated) (omega arith) (omega arith) (omega arith)
