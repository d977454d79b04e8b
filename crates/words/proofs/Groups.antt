-- The text of a grouped number, from its thousands.
use Rattle.std.proofs.Common.{◌≡◌, ℕ, zero, suc, ◌*◌, ◌/◌, ◌<◌, ◌≤◌, ◌++◌, cond, sym, ap, ◌∙◌, arith}
use Rattle.std.specs.Prelude.{codes, decimal, nat_lt, ◌^◌}
use Rattle.std.proofs.lemmas.Bool.{cond-true, cond-false, lt-ltb, le-ltb}
use Rattle.words.specs.Groups.{commas, grouped, three}

abbrev bound : ℕ → ℕ
bound zero = 1000
bound (suc f) = 1000 * bound f

more : (f n : ℕ) → n < bound f → commas (suc f) n ≡ commas f n
unfolding commas
more zero n h = cond-true _ _ _ (lt-ltb n 1000 h)
more (suc f) n h = ap (λ x. cond (nat_lt n 1000) (decimal n) (x ++ (codes "," ++ three n))) (more f (n / 1000) (omega (arith, h)))

pub short : (n : ℕ) → n < 1000 → grouped n ≡ decimal n
unfolding commas
short n h = cond-true _ _ _ (lt-ltb n 1000 h)

unfolds : (n : ℕ) → 1000 ≤ n → grouped n ≡ (commas 5 (n / 1000) ++ (codes "," ++ three n))
unfolding commas
unfolds n h = cond-false _ _ _ (le-ltb n 1000 h)

pub long : (n : ℕ) → 1000 ≤ n → n < 2 ^ 64 → grouped n ≡ (grouped (n / 1000) ++ (codes "," ++ three n))
long n h w = unfolds n h ∙ ap (λ x. x ++ (codes "," ++ three n)) (sym (more 5 (n / 1000) (omega (arith, w))))
