-- Each divider of the code divides.
use Rattle.clock.specs.Divider.{Divides}
use Rattle.clock.specs.Numbers.{numbers}
use Rattle.clock.specs.declared.divider.Divider.{Divider}

pub divides : (v : Divider) → Divides (numbers v)
divides v = record { some_pass = v.passes; some_count = v.counts }
