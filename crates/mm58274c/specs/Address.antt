-- The address of a register.
use Rattle.std.specs.Prelude.{◌≡◌, ℕ, ◌+◌}
use Rattle.mm58274c.specs.declared.register.Register.{Register}
use Rattle.mm58274c.specs.declared.register.Register.TheVariants.{Control, Tenths, Digit, Selected}

-- the digits from 1 on, of which tenths are the first
abbrev pub Is : Register → ℕ → Type 0
Is Control address = address ≡ 0
Is Tenths address = address ≡ 1
Is (Digit column) address = address ≡ 1 + column.index
Is Selected address = address ≡ 15
