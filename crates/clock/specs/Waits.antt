-- What holds of waits, one after the other.
use Rattle.std.specs.Prelude.{◌≡◌, ℕ, ◌+◌, ◌*◌, ◌%◌, ◌≤◌, List, [], ◌∷◌, sum}
use Rattle.clock.specs.Divider.{Divider, passed, stepped}

-- p is the fewest whole groups of m cycles, at least one, whose passed cycles are a multiple of k
pub record IsPeriod (v : Divider) (p : ℕ) : Type 0 where
  pub groups : ℕ
  pub at_least_one : 1 ≤ groups
  pub whole_groups : p ≡ v.m * groups
  pub whole_steps : passed v p % v.k ≡ 0
  pub fewest : (g : ℕ) → 1 ≤ g → passed v (v.m * g) % v.k ≡ 0 → groups ≤ g

-- the steps and the held cycles after the waits, from h held cycles, where held cycles are taken modulo p
unfoldable pub waits : Divider → ℕ → ℕ → List ℕ → ℕ × ℕ
waits v p h [] = (0, h % p)
waits v p h (n ∷ ns) = let rest = waits v p ((h + n) % p) ns in (stepped v h n + rest.0, rest.1)

-- neither the cut of a wait into many nor held cycles modulo p loses a cycle
pub record NoCycleLost (v : Divider) (p : ℕ) : Type 0 where
  pub one_wait_as_two : (h a b : ℕ) → stepped v h (a + b) ≡ stepped v h a + stepped v ((h + a) % p) b
  pub held_modulo_the_period : (h n : ℕ) → stepped v (h % p) n ≡ stepped v h n
  pub many_waits_as_one : (h : ℕ) (ns : List ℕ) → waits v p h ns ≡ (stepped v h (sum ns), (h + sum ns) % p)
