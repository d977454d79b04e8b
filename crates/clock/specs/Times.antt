-- Steps one after the other.
use Rattle.std.specs.Prelude.{ℕ, zero, suc}

-- what n steps, one after the other, make of s
unfoldable pub times : {S : Type 0} → ℕ → (S → S) → S → S
times zero step s = s
times (suc n) step s = step (times n step s)
