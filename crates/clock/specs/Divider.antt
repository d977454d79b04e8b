-- Cycles and steps. A cycle is one period of the crystal, a step one count of the chip's lowest counter:
-- of every m cycles a divider drops the last d, and it divides the rest by k.
use Rattle.std.specs.Prelude.{ℕ, zero, suc, ◌+◌, ◌-◌, ◌*◌, ◌/◌, ◌%◌, ◌<◌, ◌≤◌, min, true, false, ◌==◌}

-- the three numbers
pub record Divider : Type 0 where
  pub m : ℕ
  pub d : ℕ
  pub k : ℕ

-- some cycles of each group pass, and some passed cycles make a step
pub record Divides (v : Divider) : Type 0 where
  pub some_pass : v.d < v.m
  pub some_count : 1 ≤ v.k

-- the cycles that a zeroed divider lets pass of its first c
unfoldable pub passed : Divider → ℕ → ℕ
passed v c = c / v.m * (v.m - v.d) + min (c % v.m) (v.m - v.d)

-- the steps that a zeroed divider counts in c cycles
unfoldable pub counted : Divider → ℕ → ℕ
counted v c = passed v c / v.k

-- the steps that a divider with h held cycles counts in n more
unfoldable pub stepped : Divider → ℕ → ℕ → ℕ
stepped v h n = counted v (h + n) - counted v h

-- the first number of groups from g on, and at most g + n, whose passed cycles are a multiple of k
unfoldable pub fewest : Divider → ℕ → ℕ → ℕ
fewest v zero g = g
fewest v (suc n) g = elim (g * (v.m - v.d) % v.k == 0) [ true ↦ g | false ↦ fewest v n (suc g) ]

-- the fewest groups, at least one, whose passed cycles are a multiple of k
unfoldable pub groups : Divider → ℕ
groups v = fewest v (v.k - 1) 1

-- the cycles of these groups: after so many the divider stands as it stood
unfoldable pub period : Divider → ℕ
period v = v.m * groups v

-- the MM58274C's, which counts tenths of a second
abbrev pub tenths : Divider
tenths = record { m = 16; d = 1; k = 3072 }

-- the MM58167B's, which counts milliseconds
abbrev pub milliseconds : Divider
milliseconds = record { m = 128; d = 3; k = 32 }
