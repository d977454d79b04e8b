-- Day, month and year roll over, over any way to count years.
use Rattle.std.proofs.Common.{◌≡◌, ℕ, zero, suc, ◌+◌, ◌-◌, ◌%◌, ◌<◌, ◌≤◌, Bool, true, false, cond, ◌&&◌, ◌||◌, eqb, ◌⊎◌, sym, refl, ap, ◌∙◌, subst, inl, inr, mod-eq_of_lt, arith, lit≤}
use Rattle.std.proofs.lemmas.Bool.{eqb-true, eqb-false, cases_order}
use Rattle.clock.specs.Counter.{after, days_of}
use Rattle.clock.specs.Parts.{days_before, year_days, Dated, day_of_year}
use Rattle.clock.proofs.Rolling.{Rolling}

before_more : (leap : Bool) (k j : ℕ) → days_before k leap ≤ days_before (j + k) leap
unfolding days_before
before_more leap k zero = let e : zero + k ≡ k = omega arith in rw e (omega arith)
before_more leap k (suc j) =
    let e : suc j + k ≡ suc (j + k) = omega arith in
    rw e (omega (arith, before_more leap k j))

pub before_mono : (leap : Bool) (k l : ℕ) → k ≤ l → days_before k leap ≤ days_before l leap
before_mono leap k l h =
    let e : (l - k) + k ≡ l = omega arith in
    subst (λ x. days_before k leap ≤ days_before x leap) e (before_more leap k (l - k))

pub before_year : (leap : Bool) → days_before 12 leap ≡ year_days leap
unfolding days_before
before_year true = refl
before_year false = refl

pub next_month : (leap : Bool) (m : ℕ) → 1 ≤ m → days_before m leap ≡ days_before (m - 1) leap + days_of m leap
unfolding days_before
next_month leap m h =
    let e : suc (m - 1) ≡ m = omega arith in
    subst (λ x. days_before x leap ≡ days_before (m - 1) leap + days_of x leap) e refl

day_of_year_ends : (leap : Bool) (m d : ℕ) → Dated leap m d → days_before (m - 1) leap + days_of m leap ≤ year_days leap
day_of_year_ends leap m d h =
    let a = before_mono leap m 12 h.1 in
    let b = next_month leap m h.0 in
    let c = before_year leap in
    omega arith

pub day_of_year_below : (leap : Bool) (m d : ℕ) → Dated leap m d → day_of_year leap m d < year_days leap
day_of_year_below leap m d h = let a = day_of_year_ends leap m d h in omega arith

-- what a place of the year has past the first eleven months is within December
pub december : (leap : Bool) (m left : ℕ) → m ≡ 12 → days_before (m - 1) leap + left < year_days leap → left < 31
december leap m left e h =
    let f = ap (λ x. days_before (x - 1) leap) e in
    let n = next_month leap 12 (lit≤ tt) in
    let y = before_year leap in
    omega arith

month_apart : (leap : Bool) (m d n e : ℕ) → Dated leap m d → Dated leap n e → day_of_year leap m d ≡ day_of_year leap n e → m < n → ⊥
month_apart leap m d n e h k p l =
    let a = before_mono leap m (n - 1) (omega arith) in
    let b = next_month leap m h.0 in
    omega arith

day_of_year_same : (leap : Bool) (m d n e : ℕ) → Dated leap m d → Dated leap n e → day_of_year leap m d ≡ day_of_year leap n e → (m ≡ n) × (d ≡ e)
day_of_year_same leap m d n e h k p = go (cases_order m n)
  where
    go : (m ≡ n) ⊎ ((m < n) ⊎ (n < m)) → (m ≡ n) × (d ≡ e)
    go (inl q) = let b = ap (λ x. days_before (x - 1) leap) q in (q, omega arith)
    go (inr (inl l)) = absurd (month_apart leap m d n e h k p l)
    go (inr (inr l)) = absurd (month_apart leap n e m d k h (sym p) l)

pub days_some : (m : ℕ) (leap : Bool) → 28 ≤ days_of m leap
days_some m leap = go (eqb m 2) leap (eqb m 4 || eqb m 6 || eqb m 9 || eqb m 11)
  where
    go : (a b c : Bool) → 28 ≤ cond a (cond b 29 28) (cond c 30 31)
    go true true c = omega arith
    go true false c = omega arith
    go false b true = omega arith
    go false b false = omega arith

pub days_most : (m : ℕ) (leap : Bool) → days_of m leap ≤ 31
days_most m leap = go (eqb m 2) leap (eqb m 4 || eqb m 6 || eqb m 9 || eqb m 11)
  where
    go : (a b c : Bool) → cond a (cond b 29 28) (cond c 30 31) ≤ 31
    go true true c = omega arith
    go true false c = omega arith
    go false b true = omega arith
    go false b false = omega arith

-- A way to count years: which are leap years, and on which day of the round each begins.
pub record Years (Y : Type 0) : Type 1 where
  pub Ok : Y → Type 0
  pub Key : Type 0
  pub turn : Bool → Y → Y
  pub leap : Y → Bool
  pub start : Y → ℕ
  pub key : Y → Key
  pub round : ℕ
  pub whole : 0 < round
  pub rests : (y : Y) → turn false y ≡ y
  pub keeps : (y : Y) → Ok y → Ok (turn true y)
  pub ends : (y : Y) → Ok y → start y + year_days (leap y) ≤ round
  pub moves : (y : Y) → Ok y → start (turn true y) ≡ (start y + year_days (leap y)) % round
  pub stays : (y : Y) → Ok y → key (turn true y) ≡ key y
  pub same : (y z : Y) → Ok y → Ok z → key y ≡ key z → (a b : ℕ) → a < year_days (leap y) → b < year_days (leap z) → start y + a ≡ start z + b → y ≡ z

-- day, month, year
abbrev pub Date : Type 0 → Type 0
Date Y = ℕ × ℕ × Y

module _ {Y : Type 0} (w : Years Y) where
  abbrev pub OkDate : Date Y → Type 0
  OkDate p = Dated (w.leap p.2) p.1 p.0 × w.Ok p.2

  abbrev pub turn_date : Bool → Date Y → Date Y
  turn_date b p =
      let full = b && eqb p.0 (days_of p.1 (w.leap p.2)) in
      (after 1 (days_of p.1 (w.leap p.2)) b p.0, after 1 12 full p.1, w.turn (full && eqb p.1 12) p.2)

  abbrev pub place : Date Y → ℕ
  place p = w.start p.2 + day_of_year (w.leap p.2) p.1 p.0

  -- the three ways on: within the month, into the next month, into the next year
  pub data Way : Date Y → Date Y → Type 0 where
    day : {d m : ℕ} {y : Y} → d < days_of m (w.leap y) → Way (d, m, y) (d + 1, m, y)
    month : {d m : ℕ} {y : Y} → d ≡ days_of m (w.leap y) → m < 12 → Way (d, m, y) (1, m + 1, y)
    year : {d m : ℕ} {y : Y} → d ≡ days_of m (w.leap y) → m ≡ 12 → Way (d, m, y) (1, 1, w.turn true y)

  way : (d m : ℕ) (y : Y) → OkDate (d, m, y) → (full : Bool) → full ≡ eqb d (days_of m (w.leap y)) → (over : Bool) → over ≡ eqb m 12 → Way (d, m, y) (cond full 1 (d + 1), cond full (cond over 1 (m + 1)) m, w.turn (full && over) y)
  way d m y h false f over o =
      let ne = eqb-false d (days_of m (w.leap y)) (sym f) in
      subst (λ z. Way (d, m, y) (d + 1, m, z)) (sym (w.rests y)) (day (omega (arith, ne)))
  way d m y h true f false o =
      let ne = eqb-false m 12 (sym o) in
      subst (λ z. Way (d, m, y) (1, m + 1, z)) (sym (w.rests y)) (month (eqb-true d (days_of m (w.leap y)) (sym f)) (omega (arith, ne)))
  way d m y h true f true o = year (eqb-true d (days_of m (w.leap y)) (sym f)) (eqb-true m 12 (sym o))

  pub ways : (p : Date Y) → OkDate p → Way p (turn_date true p)
  ways p h = way p.0 p.1 p.2 h (eqb p.0 (days_of p.1 (w.leap p.2))) refl (eqb p.1 12) refl

  pub date_keeps : {p q : Date Y} → Way p q → OkDate p → OkDate q
  date_keeps (day l) h = ((h.0.0, h.0.1, omega arith, omega arith), h.1)
  date_keeps (month {d} {m} {y} e l) h = let s = days_some (m + 1) (w.leap y) in ((omega arith, omega arith, omega arith, omega arith), h.1)
  date_keeps (year {d} {m} {y} e l) h =
      let s = days_some 1 (w.leap (w.turn true y)) in
      ((omega arith, omega arith, omega arith, omega arith), w.keeps y h.1)

  pub date_moves : {p q : Date Y} → Way p q → OkDate p → place q ≡ (place p + 1) % w.round
  unfolding days_before
  date_moves (day {d} {m} {y} l) h =
      let a = day_of_year_ends (w.leap y) m d h.0 in
      let b = w.ends y h.1 in
      let lt : w.start y + day_of_year (w.leap y) m d + 1 < w.round = omega arith in
      let e : w.start y + day_of_year (w.leap y) m (d + 1) ≡ w.start y + day_of_year (w.leap y) m d + 1 = omega arith in
      e ∙ sym (mod-eq_of_lt lt)
  date_moves (month {d} {m} {y} f l) h =
      let a = day_of_year_ends (w.leap y) (m + 1) 1 (omega arith, omega arith, omega arith, omega (arith, days_some (m + 1) (w.leap y))) in
      let s = days_some (m + 1) (w.leap y) in
      let b = w.ends y h.1 in
      let c = next_month (w.leap y) m h.0.0 in
      let k : m + 1 - 1 ≡ m = omega arith in
      let k' = ap (λ x. days_before x (w.leap y)) k in
      let lt : w.start y + day_of_year (w.leap y) m d + 1 < w.round = omega arith in
      let e : w.start y + day_of_year (w.leap y) (m + 1) 1 ≡ w.start y + day_of_year (w.leap y) m d + 1 = omega arith in
      e ∙ sym (mod-eq_of_lt lt)
  date_moves (year {d} {m} {y} f l) h =
      let b = w.moves y h.1 in
      let c = next_month (w.leap y) m h.0.0 in
      let g = ap (λ x. days_before x (w.leap y)) l ∙ before_year (w.leap y) in
      let z : w.start (w.turn true y) + day_of_year (w.leap (w.turn true y)) 1 1 ≡ w.start (w.turn true y) = omega arith in
      let e : w.start y + year_days (w.leap y) ≡ w.start y + day_of_year (w.leap y) m d + 1 = omega arith in
      z ∙ b ∙ ap (λ x. x % w.round) e

  pub date_stays : {p q : Date Y} → Way p q → OkDate p → w.key q.2 ≡ w.key p.2
  date_stays (day l) h = refl
  date_stays (month e l) h = refl
  date_stays (year {d} {m} {y} e l) h = w.stays y h.1

  pub date_same : (p q : Date Y) → OkDate p → OkDate q → place p ≡ place q → w.key p.2 ≡ w.key q.2 → p ≡ q
  date_same p q hp hq e k =
      let y = w.same p.2 q.2 hp.1 hq.1 k (day_of_year (w.leap p.2) p.1 p.0) (day_of_year (w.leap q.2) q.1 q.0)
      (day_of_year_below (w.leap p.2) p.1 p.0 hp.0) (day_of_year_below (w.leap q.2) q.1 q.0 hq.0) e in
      let at : w.start p.2 + day_of_year (w.leap p.2) p.1 p.0 ≡ w.start p.2 + day_of_year (w.leap p.2) q.1 q.0 =
      subst (λ z. w.start p.2 + day_of_year (w.leap p.2) p.1 p.0 ≡ w.start z + day_of_year (w.leap z) q.1 q.0) (sym y) e in
      let ok : Dated (w.leap p.2) q.1 q.0 = subst (λ z. Dated (w.leap z) q.1 q.0) (sym y) hq.0 in
      let both = day_of_year_same (w.leap p.2) p.1 p.0 q.1 q.0 hp.0 ok (omega arith) in
      λ i. (both.1 i, both.0 i, y i)

  pub date_below : (p : Date Y) → OkDate p → place p < w.round
  date_below p h =
      let a = day_of_year_below (w.leap p.2) p.1 p.0 h.0 in
      let b = w.ends p.2 h.1 in
      omega arith

  abbrev pub dates : Rolling (Date Y)
  dates = record {
    Ok = OkDate;
    Key = w.Key;
    turn = turn_date;
    pos = place;
    key = λ p. w.key p.2;
    round = w.round;
    whole = w.whole;
    rests = λ p i. (p.0, p.1, w.rests p.2 i);
    keeps = λ p h. date_keeps (ways p h) h;
    below = date_below;
    moves = λ p h. date_moves (ways p h) h;
    stays = λ p h. date_stays (ways p h) h;
    same = date_same;
  }
