-- The hour mode as a flag.
use Rattle.std.specs.Prelude.{Bool, true, false}
use Rattle.clock.specs.declared.mode.HourMode.{HourMode}
use Rattle.clock.specs.declared.mode.HourMode.TheVariants.{Twelve, TwentyFour}

abbrev pub is24 : HourMode → Bool
is24 Twelve = false
is24 TwentyFour = true
