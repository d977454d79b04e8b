-- A number with a comma before each three digits.
use Rattle.std.specs.Prelude.{ℕ, zero, suc, List, [], ◌++◌, ◌==◌, codes, decimal, cond, nat_lt, ◌/◌, ◌%◌}

-- the last three digits
abbrev pub three : ℕ → List ℕ
three n = decimal (n / 100 % 10) ++ (decimal (n / 10 % 10) ++ decimal (n % 10))

-- with at most so many commas
unfoldable pub commas : ℕ → ℕ → List ℕ
commas zero n = decimal n
commas (suc f) n =
    cond (nat_lt n 1000) (decimal n) (commas f (n / 1000) ++ (codes "," ++ three n))

-- a number of 64 bits has at most six
abbrev pub grouped : ℕ → List ℕ
grouped n = commas 6 n

-- so many of something
abbrev pub several : ℕ → List ℕ → List ℕ
several n of = grouped n ++ (codes " " ++ (of ++ cond (n == 1) [] (codes "s")))
