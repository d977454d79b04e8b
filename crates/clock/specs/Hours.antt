-- An hour as the registers keep it: hours, PM, and whether the mode is the 24-hour mode.
use Rattle.std.specs.Prelude.{ℕ, Bool, true, false}
use Rattle.clock.specs.declared.hour.Hour.{Hour}
use Rattle.clock.specs.declared.hour.Hour.TheVariants.{Am, Pm, TwentyFour}

abbrev pub hours : Hour → ℕ
hours (Am h) = h
hours (Pm h) = h
hours (TwentyFour h) = h

abbrev pub is_pm : Hour → Bool
is_pm (Am h) = false
is_pm (Pm h) = true
is_pm (TwentyFour h) = false

abbrev pub mode24 : Hour → Bool
mode24 (Am h) = false
mode24 (Pm h) = false
mode24 (TwentyFour h) = true
