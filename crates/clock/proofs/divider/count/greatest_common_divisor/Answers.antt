use native.Mathlib.Nat.{dvd-mod_iff}
use Rattle.clock.proofs.divider.count.greatest_common_divisor.Goals as goal

pub loop-y-preserved : goal.loop-y-preserved
loop-y-preserved c = λ d. (
  λ h. (c.loop-y.invariant d).0 ((dvd-mod_iff d h.0).0 h.1, h.0),
  λ h. let k = (c.loop-y.invariant d).1 h in (k.1, (dvd-mod_iff d k.1).1 k.0),
)
