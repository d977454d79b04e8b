-- The bits of the registers.
use Rattle.std.specs.Prelude.{ℕ, ◌+◌, ◌*◌, ◌/◌, ◌%◌, ◌^◌, Bool, cond, [], ◌∷◌, ◌==◌, slice_index}

-- bit i of a register
abbrev pub bit : ℕ → ℕ → Bool
bit i register = register / 2 ^ i % 2 == 1

-- the low n bits
abbrev pub cut : ℕ → ℕ → ℕ
cut n digit = digit % 2 ^ n

-- The active bits of the digits in columns 0 to 13: 4 for tenths, units and years, 3 for tens of seconds and of minutes,
-- 2 or 1 for tens of hours by mode, 2 for tens of days, 1 for tens of months, 3 for the day of the week.
abbrev pub active_bits : Bool → ℕ → ℕ
active_bits mode24 column = slice_index (4 ∷ 4 ∷ 3 ∷ 4 ∷ 3 ∷ 4 ∷ cond mode24 2 1 ∷ 4 ∷ 2 ∷ 4 ∷ 1 ∷ 4 ∷ 4 ∷ 3 ∷ []) column

-- The setting register: the leap count in bits 3 and 2, PM in bit 1, 24-hour mode in bit 0. In 24-hour mode PM is stored as 0.
abbrev pub stored_setting : ℕ → ℕ
stored_setting setting = cond (bit 0 setting) (4 * (setting / 4) + 1) setting
