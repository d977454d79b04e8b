-- Greatest common divisors.
use Rattle.std.specs.Prelude.{ℕ, ◌↔◌}
use Rattle.std.specs.Int.{◌∣◌}

-- what divides a and b is what divides g
abbrev pub Greatest : ℕ → ℕ → ℕ → Type 0
Greatest a b g = (d : ℕ) → ((d ∣ a) × (d ∣ b)) ↔ (d ∣ g)
