-- The address of a register.
use Rattle.std.specs.Prelude.{◌≡◌, ℕ, ◌+◌}
use Rattle.mm58167b.specs.declared.register.Register.{Register}
use Rattle.mm58167b.specs.declared.register.Register.TheVariants.{Counter, Ram, Status}

-- counters from 0 on, RAM from 8 on, the status at 20
abbrev pub Is : Register → ℕ → Type 0
Is (Counter place) address = address ≡ place.index
Is (Ram place) address = address ≡ 8 + place.index
Is Status address = address ≡ 20
