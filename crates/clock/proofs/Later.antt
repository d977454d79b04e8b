-- Many days at once, by the date's place.
use Rattle.std.proofs.Common.{◌≡◌, ℕ, ◌+◌, ◌-◌, ◌*◌, ◌/◌, ◌%◌, ◌≤◌, false, eqb, refl, ap, ◌∙◌, arith}
use native.Mathlib.Nat.{add-mod-mod}
use Rattle.clock.specs.Times.{times}
use Rattle.clock.specs.Parts.{Dated, day_of_year, next_date, next_month_day}
use Rattle.clock.proofs.Modular.{carried}
use Rattle.clock.proofs.Rolling.{lands}
use Rattle.clock.proofs.Dates.{dates}
use Rattle.clock.proofs.Years.{plain, century, fours, since_leap}

-- the place n days on, without a year counter
pub month_day_later : (n d m d' m' : ℕ) → Dated false m d → Dated false m' d' → day_of_year false m' d' ≡ (day_of_year false m d + n % 365) % 365 → (d', m', tt) ≡ times n next_month_day (d, m, tt)
month_day_later n d m d' m' h h' e = lands (dates plain) n (d, m, tt) (d', m', tt) (h, tt) (h', tt) (omega arith) refl

-- v is a leap year's number and fours of years, l the years after it
year_back : (v l : ℕ) → l ≤ 3 → ((v + l) % 100 + 100 - l) % 100 ≡ v % 100
year_back v l h = omega arith

quarter : (u f : ℕ) → (u + 4 * f) % 100 / 4 ≡ (u % 100 / 4 + f) % 25
quarter u f = omega arith

same_phase : (u f l : ℕ) → l ≤ 3 → ((u + 4 * f + l) % 100 + 100 - l) % 4 ≡ u % 4
same_phase u f l h = omega arith

-- the date that stands n days on: p is the place in the four years
pub date_later : (n d m l y p d' m' l' : ℕ) → Dated (eqb l 0) m d → (l ≤ 3) × (y ≤ 99) → Dated (eqb l' 0) m' d' → l' ≤ 3 → p ≡ since_leap l + day_of_year (eqb l 0) m d + n % 36525 → since_leap l' + day_of_year (eqb l' 0) m' d' ≡ p % 1461 → (d', m', (l', (y + 100 - l + 4 * (p / 1461) + l') % 100)) ≡ times n next_date (d, m, (l, y))
date_later n d m l y p d' m' l' h k h' k' is at =
    let q = since_leap l + day_of_year (eqb l 0) m d in
    let y' = (y + 100 - l + 4 * (p / 1461) + l') % 100 in
    let f : fours l' y' ≡ (fours l y + p / 1461) % 25 = ap (λ x. x / 4) (year_back (y + 100 - l + 4 * (p / 1461)) l' k') ∙ quarter (y + 100 - l) (p / 1461) in
    let c = carried 1461 25 q (fours l y) (n % 36525) (omega arith) (omega arith) in
    let there : since_leap l' + 1461 * fours l' y' + day_of_year (eqb l' 0) m' d' ≡ p % 1461 + 1461 * ((fours l y + p / 1461) % 25) = omega (arith, ap (λ x. 1461 * x) f) in
    let moved : p % 1461 + 1461 * ((fours l y + p / 1461) % 25) ≡ (q + 1461 * fours l y + n % 36525) % 36525 = ap (λ x. x % 1461 + 1461 * ((fours l y + x / 1461) % 25)) is ∙ c in
    let here : q + 1461 * fours l y + n % 36525 ≡ since_leap l + 1461 * fours l y + day_of_year (eqb l 0) m d + n % 36525 = omega arith in
    lands (dates century) n (d, m, (l, y)) (d', m', (l', y')) (h, k) (h', (k', omega arith))
    (there ∙ moved ∙ ap (λ x. x % 36525) here ∙ add-mod-mod (since_leap l + 1461 * fours l y + day_of_year (eqb l 0) m d) n 36525)
    (same_phase (y + 100 - l) (p / 1461) l' k')
