-- The ways to count years: none, and a leap count beside a year of two digits.
use Rattle.std.proofs.Common.{◌≡◌, ℕ, ◌+◌, ◌-◌, ◌*◌, ◌/◌, ◌%◌, ◌<◌, ◌≤◌, min, Bool, true, false, eqb, ◌⊎◌, sym, refl, ap, ◌∙◌, inl, inr, zero-le, arith}
use Rattle.std.proofs.lemmas.Bool.{eqb-true, eqb-false, cases_lt}
use Rattle.clock.specs.Counter.{after}
use Rattle.clock.specs.Parts.{year_days}
use Rattle.clock.proofs.Cascade.{moves_after}
use Rattle.clock.proofs.Dates.{Years}

-- every year has 365 days
abbrev pub plain : Years (Unit {0})
plain = record {
  Ok = λ _. Unit {0};
  Key = Unit {0};
  turn = λ _ y. y;
  leap = λ _. false;
  start = λ _. 0;
  key = λ _. tt;
  round = 365;
  whole = omega arith;
  rests = λ y. refl;
  keeps = λ y h. h;
  ends = λ y h. omega arith;
  moves = λ y h. refl;
  stays = λ y h. refl;
  same = λ y z hy hz k a b ha hb e. refl;
}

-- a counter from 0 moves on by one modulo its length
pub on_from_0 : (last n : ℕ) → n ≤ last → after 0 last true n ≡ (n + 1) % (last + 1)
on_from_0 last n h =
    let a : (k : ℕ) → k - 0 ≡ k = λ k. omega arith in
    sym (a (after 0 last true n)) ∙ moves_after 0 last n zero-le (zero-le, h) (eqb n last) refl ∙ ap (λ x. (x + 1) % (last + 1 - 0)) (a n) ∙ ap (λ x. (n + 1) % x) (a (last + 1))

pub leap_days : (l : ℕ) → year_days (eqb l 0) + min l 1 ≡ 366
leap_days l = go (eqb l 0) refl
  where
    go : (b : Bool) → eqb l 0 ≡ b → year_days b + min l 1 ≡ 366
    go true e = let z = eqb-true l 0 e in omega arith
    go false e = let ne = eqb-false l 0 e in omega (arith, ne)

-- the days of a leap year and the years after it, before the year of leap count l
abbrev pub since_leap : ℕ → ℕ
since_leap l = 365 * l + min l 1

-- the fours of years before the one that began with the last leap year
abbrev pub fours : ℕ → ℕ → ℕ
fours l y = (y + 100 - l) % 100 / 4

pub fours_below : (l y : ℕ) → fours l y ≤ 24
fours_below l y = omega arith

pub fours_stay : (l y : ℕ) → l < 3 → y ≤ 99 → fours (l + 1) ((y + 1) % 100) ≡ fours l y
fours_stay l y h k =
    let e : ((y + 1) % 100 + 100 - (l + 1)) % 100 ≡ (y + 100 - l) % 100 = omega arith in
    ap (λ x. x / 4) e

pub fours_on : (y : ℕ) → y ≤ 99 → fours 0 ((y + 1) % 100) ≡ (fours 3 y + 1) % 25
fours_on y k =
    let e : ((y + 1) % 100 + 100 - 0) % 100 ≡ ((y + 100 - 3) % 100 + 4) % 100 = omega arith in
    let x = (y + 100 - 3) % 100 in
    let g : (x + 4) % 100 / 4 ≡ (x / 4 + 1) % 25 = omega arith in
    ap (λ x. x / 4) e ∙ g

-- where the next year begins
pub year_start : (l y d : ℕ) → l ≤ 3 → y ≤ 99 → d + min l 1 ≡ 366 → since_leap ((l + 1) % 4) + 1461 * fours ((l + 1) % 4) ((y + 1) % 100) ≡ (since_leap l + 1461 * fours l y + d) % 36525
year_start l y d h k e = go (cases_lt l 3)
  where
    go : (l < 3) ⊎ (3 ≤ l) → since_leap ((l + 1) % 4) + 1461 * fours ((l + 1) % 4) ((y + 1) % 100) ≡ (since_leap l + 1461 * fours l y + d) % 36525
    go (inl lt) =
        let m : (l + 1) % 4 ≡ l + 1 = omega arith in
        let f = fours_stay l y lt k in
        let b = fours_below l y in
        rw m (rw f (small l (fours l y) d lt b e))
      where
        small : (l q d : ℕ) → l < 3 → q ≤ 24 → d + min l 1 ≡ 366 → since_leap (l + 1) + 1461 * q ≡ (since_leap l + 1461 * q + d) % 36525
        small l q d lt b e =
            let s : since_leap l + d ≡ since_leap (l + 1) = omega arith in
            omega arith
    go (inr ge) =
        let three : l ≡ 3 = omega arith in
        let b = fours_below 3 y in
        rw three (rw (fours_on y k) (large (fours 3 y) d b (omega arith)))
      where
        large : (q d : ℕ) → q ≤ 24 → d ≡ 365 → since_leap ((3 + 1) % 4) + 1461 * ((q + 1) % 25) ≡ (since_leap 3 + 1461 * q + d) % 36525
        large q d b e = omega arith

pub leap_same : (l m x y a b : ℕ) → l ≤ 3 → m ≤ 3 → a + min l 1 < 366 → b + min m 1 < 366 → since_leap l + 1461 * x + a ≡ since_leap m + 1461 * y + b → (l ≡ m) × (x ≡ y)
leap_same l m x y a b hl hm ha hb e =
    let p = since_leap l + a in
    let q = since_leap m + b in
    let hp : since_leap l + a < 1461 = omega arith in
    let hq : since_leap m + b < 1461 = omega arith in
    let xy = high (since_leap l + a) (since_leap m + b) x y hp hq (omega arith) in
    let pq : since_leap l + a ≡ since_leap m + b = omega arith in
    (low l m a b hl hm ha hb pq, xy)
  where
    high : (p q x y : ℕ) → p < 1461 → q < 1461 → p + 1461 * x ≡ q + 1461 * y → x ≡ y
    high p q x y hp hq e = omega arith

    low : (l m a b : ℕ) → l ≤ 3 → m ≤ 3 → a + min l 1 < 366 → b + min m 1 < 366 → since_leap l + a ≡ since_leap m + b → l ≡ m
    low l m a b hl hm ha hb e = omega arith

pub year_same : (l y z : ℕ) → l ≤ 3 → y ≤ 99 → z ≤ 99 → fours l y ≡ fours l z → (y + 100 - l) % 4 ≡ (z + 100 - l) % 4 → y ≡ z
year_same l y z hl hy hz f k =
    let u = y + 100 - l in
    let v = z + 100 - l in
    let g : (y + 100 - l) % 100 ≡ (z + 100 - l) % 100 = same (y + 100 - l) (z + 100 - l) f k in
    omega arith
  where
    same : (u v : ℕ) → u % 100 / 4 ≡ v % 100 / 4 → u % 4 ≡ v % 4 → u % 100 ≡ v % 100
    same u v f k = omega arith

-- year 00 to 99 beside the leap count
abbrev pub century : Years (ℕ × ℕ)
century = record {
  Ok = λ p. (p.0 ≤ 3) × (p.1 ≤ 99);
  Key = ℕ;
  turn = λ b p. (after 0 3 b p.0, after 0 99 b p.1);
  leap = λ p. eqb p.0 0;
  start = λ p. since_leap p.0 + 1461 * fours p.0 p.1;
  key = λ p. (p.1 + 100 - p.0) % 4;
  round = 36525;
  whole = omega arith;
  rests = λ p. refl;
  keeps = λ p h. let a = on_from_0 3 p.0 h.0 in let b = on_from_0 99 p.1 h.1 in (omega arith, omega arith);
  ends = λ p h. let d = leap_days p.0 in let b = fours_below p.0 p.1 in omega arith;
  moves = λ p h.
      ap (λ x. since_leap x + 1461 * fours x (after 0 99 true p.1)) (on_from_0 3 p.0 h.0)
      ∙ ap (λ x. since_leap ((p.0 + 1) % 4) + 1461 * fours ((p.0 + 1) % 4) x) (on_from_0 99 p.1 h.1)
      ∙ year_start p.0 p.1 (year_days (eqb p.0 0)) h.0 h.1 (leap_days p.0);
  stays = λ p h. let a = on_from_0 3 p.0 h.0 in let b = on_from_0 99 p.1 h.1 in omega arith;
  same = λ p q hp hq k a b ha hb e.
      let d = leap_days p.0 in
      let d' = leap_days q.0 in
      let l = leap_same p.0 q.0 (fours p.0 p.1) (fours q.0 q.1) a b hp.0 hq.0 (omega arith) (omega arith) e in
      let m = l.0 in
      let f : fours p.0 p.1 ≡ fours p.0 q.1 = l.1 ∙ ap (λ x. fours x q.1) (sym m) in
      let g : (p.1 + 100 - p.0) % 4 ≡ (q.1 + 100 - p.0) % 4 = k ∙ ap (λ x. (q.1 + 100 - x) % 4) (sym m) in
      let y = year_same p.0 p.1 q.1 hp.0 hp.1 hq.1 f g in
      λ i. (m i, y i);
}
