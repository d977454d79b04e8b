-- One counter, the months, and the digits of a number.
use Rattle.std.specs.Prelude.{ℕ, ◌+◌, ◌*◌, Bool, cond, ◌||◌, List, ◌==◌, slice_index}

-- A counter from first to last after a step: it moves only if all counters below it are at their end, and last goes to first.
abbrev pub after : ℕ → ℕ → Bool → ℕ → ℕ
after first last moves n = cond moves (cond (n == last) first (n + 1)) n

-- the days of a month
abbrev pub days_of : ℕ → Bool → ℕ
days_of month leap =
    cond (month == 2) (cond leap 29 28) (cond (month == 4 || month == 6 || month == 9 || month == 11) 30 31)

-- the number that the digits at column k (units) and column k + 1 (tens) show
abbrev pub number_at : List ℕ → ℕ → ℕ
number_at face k = slice_index face k + 10 * slice_index face (k + 1)
