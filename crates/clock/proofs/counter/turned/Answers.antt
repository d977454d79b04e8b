use Rattle.std.proofs.Common.{◌<◌, arith}
use native.Mathlib.Nat.{add-mod-mod}
use Rattle.clock.proofs.Modular.{quotient_parts}
use Rattle.clock.proofs.counter.turned.Goals as goal

pub returns : goal.returns
returns c =
    let p : 0 < c.args.places = omega arith in
    (add-mod-mod c.args.value c.args.steps c.args.places, quotient_parts c.args.value c.args.steps c.args.places p)
