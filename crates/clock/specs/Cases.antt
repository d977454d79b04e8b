-- Worked cases, of those that are easy to get wrong.
use Rattle.std.specs.Prelude.{◌≡◌, ℕ, ◌*◌, List, [], ◌∷◌, slice_index, slice_set}
use Rattle.clock.specs.Times.{times}
use Rattle.clock.specs.Divider.{counted, tenths, milliseconds}
use Rattle.clock.specs.Mm58274c.{Lawful, step}

-- The faces are the MM58274C's: tenths, then units and tens of seconds, minutes, hours, days, months and years, then weekday and setting.
-- `days` are the days of a hundred years, of 864,000 tenths each.
pub record WorkedCases (days : ℕ) : Type 0 where
  pub no_tenth_in_3275_cycles : counted tenths 3275 ≡ 0
  pub one_tenth_in_3276_cycles : counted tenths 3276 ≡ 1
  pub ten_tenths_in_32768_cycles : counted tenths 32768 ≡ 10
  pub three_milliseconds_in_130_cycles : counted milliseconds 130 ≡ 3
  pub four_milliseconds_in_131_cycles : counted milliseconds 131 ≡ 4
  pub a_thousand_milliseconds_in_32768_cycles : counted milliseconds 32768 ≡ 1000
  -- 28 February 84, 23:59:59.9, leap count 0
  pub leap_count_0_gives_29_February : step (9 ∷ 9 ∷ 5 ∷ 9 ∷ 5 ∷ 3 ∷ 2 ∷ 8 ∷ 2 ∷ 2 ∷ 0 ∷ 4 ∷ 8 ∷ 3 ∷ 1 ∷ []) ≡ 0 ∷ 0 ∷ 0 ∷ 0 ∷ 0 ∷ 0 ∷ 0 ∷ 9 ∷ 2 ∷ 2 ∷ 0 ∷ 4 ∷ 8 ∷ 4 ∷ 1 ∷ []
  -- the same with leap count 1
  pub leap_count_1_gives_1_March : step (9 ∷ 9 ∷ 5 ∷ 9 ∷ 5 ∷ 3 ∷ 2 ∷ 8 ∷ 2 ∷ 2 ∷ 0 ∷ 4 ∷ 8 ∷ 3 ∷ 5 ∷ []) ≡ 0 ∷ 0 ∷ 0 ∷ 0 ∷ 0 ∷ 0 ∷ 0 ∷ 1 ∷ 0 ∷ 3 ∷ 0 ∷ 4 ∷ 8 ∷ 4 ∷ 5 ∷ []
  -- 31 December 99, 23:59:59.9, leap count 3
  pub year_99_gives_1_January_00_with_leap_count_0 : step (9 ∷ 9 ∷ 5 ∷ 9 ∷ 5 ∷ 3 ∷ 2 ∷ 1 ∷ 3 ∷ 2 ∷ 1 ∷ 9 ∷ 9 ∷ 5 ∷ 13 ∷ []) ≡ 0 ∷ 0 ∷ 0 ∷ 0 ∷ 0 ∷ 0 ∷ 0 ∷ 1 ∷ 0 ∷ 1 ∷ 0 ∷ 0 ∷ 0 ∷ 6 ∷ 1 ∷ []
  -- 11:59:59.9 PM on day 7
  pub eleven_PM_on_day_7_gives_twelve_AM_on_day_1 : step (9 ∷ 9 ∷ 5 ∷ 9 ∷ 5 ∷ 1 ∷ 1 ∷ 5 ∷ 1 ∷ 6 ∷ 0 ∷ 4 ∷ 8 ∷ 7 ∷ 2 ∷ []) ≡ 0 ∷ 0 ∷ 0 ∷ 0 ∷ 0 ∷ 2 ∷ 1 ∷ 6 ∷ 1 ∷ 6 ∷ 0 ∷ 4 ∷ 8 ∷ 1 ∷ 0 ∷ []
  -- 12:59:59.9 PM
  pub twelve_PM_gives_one_PM : step (9 ∷ 9 ∷ 5 ∷ 9 ∷ 5 ∷ 2 ∷ 1 ∷ 5 ∷ 1 ∷ 6 ∷ 0 ∷ 4 ∷ 8 ∷ 7 ∷ 2 ∷ []) ≡ 0 ∷ 0 ∷ 0 ∷ 0 ∷ 0 ∷ 1 ∷ 0 ∷ 5 ∷ 1 ∷ 6 ∷ 0 ∷ 4 ∷ 8 ∷ 7 ∷ 2 ∷ []
  -- every other column is back
  pub after_a_hundred_years_weekday_1_is_7 : (face : List ℕ) → Lawful face → slice_index face 13 ≡ 1 → times (days * 864000) step face ≡ slice_set face 13 7
