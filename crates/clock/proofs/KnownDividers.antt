-- The dividers of the chips.
use Rattle.std.proofs.Common.{◌≡◌, ◌*◌, refl, ap, lit<, lit≤}
use native.Mathlib.Nat.{dvd-sub, dvd_trans, dvd-mul_right, dvd-mul_left_of_dvd, one-dvd}
use Rattle.clock.specs.Divider.{Divides, passed, counted, period, tenths, milliseconds}
use Rattle.clock.specs.Divisors.{Greatest}
use Rattle.clock.proofs.Periods.{groups_are}

tenths_divides : Divides tenths
tenths_divides = record { some_pass = lit< tt; some_count = lit≤ tt }

milliseconds_divides : Divides milliseconds
milliseconds_divides = record { some_pass = lit< tt; some_count = lit≤ tt }

-- 3 is 205 * 15 - 3072, and 1 is 21 * 125 - 82 * 32
tenths_greatest : Greatest 15 3072 3
tenths_greatest d = (
  λ h. dvd-sub d (dvd-mul_left_of_dvd d h.0 205) h.1,
  λ h. (dvd_trans d h (dvd-mul_right 3 5), dvd_trans d h (dvd-mul_right 3 1024)),
)

milliseconds_greatest : Greatest 125 32 1
milliseconds_greatest d = (
  λ h. dvd-sub d (dvd-mul_left_of_dvd d h.0 21) (dvd-mul_left_of_dvd d h.1 82),
  λ h. (dvd_trans d h (one-dvd 125), dvd_trans d h (one-dvd 32)),
)

pub tenths_period : 16384 ≡ period tenths
unfolding period
tenths_period = ap (λ g. 16 * g) (groups_are tenths tenths_divides 3 tenths_greatest)

pub milliseconds_period : 4096 ≡ period milliseconds
unfolding period
milliseconds_period = ap (λ g. 128 * g) (groups_are milliseconds milliseconds_divides 1 milliseconds_greatest)

-- the first tenth comes with the 3276th cycle, five in a period, and ten in a second of 32768 cycles
pub tenths_counted : (counted tenths 3275 ≡ 0) × (counted tenths 3276 ≡ 1) × (counted tenths 16384 ≡ 5) × (counted tenths 32768 ≡ 10)
unfolding counted passed
tenths_counted = (refl, refl, refl, refl)

-- the fourth millisecond comes with the 131st cycle, 125 in a period, and a thousand in a second
pub milliseconds_counted : (counted milliseconds 130 ≡ 3) × (counted milliseconds 131 ≡ 4) × (counted milliseconds 4096 ≡ 125) × (counted milliseconds 32768 ≡ 1000)
unfolding counted passed
milliseconds_counted = (refl, refl, refl, refl)
