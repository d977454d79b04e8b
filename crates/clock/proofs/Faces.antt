-- A list of known length, spelled out by its columns.
use Rattle.std.proofs.Common.{◌≡◌, ℕ, zero, suc, ◌+◌, ◌*◌, ◌/◌, ◌%◌, ◌≤◌, List, [], ◌∷◌, length, get_or, refl, ap, arith}

-- the first n values of g
abbrev pub cols : ℕ → (ℕ → ℕ) → List ℕ
cols zero g = []
cols (suc n) g = g 0 ∷ cols n (λ k. g (suc k))

pub spelled : (n : ℕ) (f : List ℕ) → length f ≡ n → f ≡ cols n (λ k. get_or f k 0)
spelled zero [] e = refl
spelled (suc n) [] e = absurd (omega arith)
spelled zero (x ∷ f) e = absurd (omega arith)
spelled (suc n) (x ∷ f) e = ap (λ l. x ∷ l) (spelled n f (omega arith))

-- two decimal digits are those of the number that they show
pub units : (u t : ℕ) → u ≤ 9 → u ≡ (u + 10 * t) % 10
units u t h = omega arith

pub tens : (u t : ℕ) → u ≤ 9 → t ≡ (u + 10 * t) / 10
tens u t h = omega arith

pub two_of : (n : ℕ) → n % 10 + 10 * (n / 10) ≡ n
two_of n = omega arith
