-- Weekday and date move together. The date comes round after q days, which are no whole weeks, so that the weekday tells in which of seven
-- such spans the date stands: the place of the two is the date's place after as many whole spans.
use Rattle.std.proofs.Common.{◌≡◌, ℕ, zero, suc, ◌+◌, ◌-◌, ◌*◌, ◌/◌, ◌%◌, ◌<◌, ◌≤◌, Bool, true, ◌&&◌, eqb, ◌⊎◌, sym, refl, ap, ◌∙◌, inl, inr, mod-lt, mod-eq_of_lt, mul_comm, mul-add, mul_left_comm, arith, lit≤}
use native.Mathlib.Nat.{mod_self, div_self, div-add-mod, mod-add-mod, add-mul-mod_self_left}
use Rattle.std.proofs.lemmas.Bool.{cases_lt}
use Rattle.std.proofs.lemmas.Bool.Decides.{Decides-below_and, Decides-eqb}
use Rattle.clock.proofs.Modular.{pair_below, pair_low, pair_high, carried, shift_same}
use Rattle.clock.proofs.Rolling.{Rolling, run, run_ok, run_pos}
use Rattle.clock.proofs.Cascade.{Joined, counter, together, together_run}

mod7 : (x y k : ℕ) → x ≡ y + 7 * k → x % 7 ≡ y % 7
mod7 x y k e = ap (λ z. z % 7) e ∙ add-mul-mod_self_left y 7 k

-- a factor may be taken modulo 7 first
mod7_factor : (i x y : ℕ) → (i * (x % 7) + y) % 7 ≡ (i * x + y) % 7
mod7_factor i x y =
    let e : i * x ≡ 7 * (i * (x / 7)) + i * (x % 7) =
    ap (λ z. i * z) (sym (div-add-mod x 7)) ∙ mul-add i (7 * (x / 7)) (x % 7) ∙ ap (λ z. z + i * (x % 7)) (mul_left_comm i 7 (x / 7)) in
    sym (mod7 (i * x + y) (i * (x % 7) + y) (i * (x / 7)) (omega arith))

abbrev fixed : (ℕ → ℕ) → ℕ → Bool
fixed g zero = true
fixed g (suc n) = eqb (g n) n && fixed g n

-- a rule of the seven weekdays, proved by one computed test
seven : (g : ℕ → ℕ) → fixed g 7 ≡ true → (a : ℕ) → a < 7 → g a ≡ a
seven g t = (Decides-below_and (λ k. eqb (g k) k) (λ k. g k ≡ k) (fixed g) (λ k. Decides-eqb (g k) k) refl (λ _. refl) 7).0 t

-- i and j weigh weekday and date so that a day more leaves the span, and the q-th day more begins the next; `back` undoes the factor i
pub record Weighs (q i j : ℕ) : Type 0 where
  pub some : 0 < q
  pub stays : i + j ≡ 7
  pub weeks : ℕ
  pub goes : j * q + 1 ≡ 7 * weeks
  pub back : ℕ
  pub tells : fixed (λ a. back * (i * a % 7) % 7) 7 ≡ true

-- the span that weekday a and date b tell, and the place of the two
abbrev pub span : ℕ → ℕ → ℕ → ℕ → ℕ
span i j a b = (i * a + j * b) % 7

abbrev pub week_place : ℕ → ℕ → ℕ → ℕ → ℕ → ℕ
week_place q i j a b = b + q * span i j a b

module _ (q i j : ℕ) (w : Weighs q i j) where
  span_below : (a b : ℕ) → span i j a b < 7
  span_below a b = mod-lt (i * a + j * b) (omega arith)

  span_stays : (a b : ℕ) → span i j ((a + 1) % 7) (b + 1) ≡ span i j a b
  span_stays a b =
      mod7_factor i (a + 1) (j * (b + 1))
      ∙ mod7 (i * (a + 1) + j * (b + 1)) (i * a + j * b) 1 (omega (arith, w.stays, mul-add i a 1, mul-add j b 1))

  span_goes : (a b : ℕ) → b + 1 ≡ q → span i j ((a + 1) % 7) 0 ≡ (span i j a b + 1) % 7
  span_goes a b e =
      let g : j * (b + 1) + 1 ≡ 7 * w.weeks = ap (λ x. j * x + 1) e ∙ w.goes in
      mod7_factor i (a + 1) (j * 0)
      ∙ sym (mod-add-mod (i * a + j * b) 7 1 ∙ mod7 (i * a + j * b + 1) (i * (a + 1) + j * 0) (w.weeks - 1) (omega (arith, w.stays, mul-add i a 1, mul-add j b 1)))

  span_tells : (x a c : ℕ) → a < 7 → c < 7 → (i * a + x) % 7 ≡ (i * c + x) % 7 → a ≡ c
  span_tells x a c ha hc e =
      let g : ℕ → ℕ = λ a. w.back * (i * a % 7) % 7 in
      let l : (u : ℕ) → (x % 7 + u) % 7 ≡ (u + x) % 7 = λ u. mod-add-mod x 7 u ∙ ap (λ z. z % 7) (let s : x + u ≡ u + x = omega arith in s) in
      let f = shift_same 7 (x % 7) (i * a) (i * c) (mod-lt x (omega arith)) (l (i * a) ∙ e ∙ sym (l (i * c))) in
      sym (seven g w.tells a ha) ∙ ap (λ z. w.back * z % 7) f ∙ seven g w.tells c hc

  week_within : (a b : ℕ) → b < q → week_place q i j a b < 7 * q
  week_within a b hb = omega (arith, pair_below q 7 b (span i j a b) hb (span_below a b), mul_comm q 7)

  week_onward : (a b : ℕ) → b < q → week_place q i j ((a + 1) % 7) ((b + 1) % q) ≡ (week_place q i j a b + 1) % (7 * q)
  week_onward a b hb = go (cases_lt (b + 1) q)
    where
      go : (b + 1 < q) ⊎ (q ≤ b + 1) → week_place q i j ((a + 1) % 7) ((b + 1) % q) ≡ (week_place q i j a b + 1) % (7 * q)
      go (inl l) =
          let below : b + 1 + q * span i j a b < 7 * q = omega (arith, pair_below q 7 (b + 1) (span i j a b) l (span_below a b), mul_comm q 7) in
          let e : b + 1 + q * span i j a b ≡ b + q * span i j a b + 1 = omega arith in
          ap (week_place q i j ((a + 1) % 7)) (mod-eq_of_lt l) ∙ ap (λ x. b + 1 + q * x) (span_stays a b) ∙ sym (mod-eq_of_lt below) ∙ ap (λ x. x % (7 * q)) e
      go (inr g) =
          let e : b + 1 ≡ q = omega arith in
          let z : (b + 1) % q ≡ 0 = ap (λ x. x % q) e ∙ mod_self q in
          let d : (b + 1) / q ≡ 1 = ap (λ x. x / q) e ∙ div_self w.some in
          ap (week_place q i j ((a + 1) % 7)) z
          ∙ ap (λ x. 0 + q * x) (span_goes a b e)
          ∙ ap (λ x. x + q * ((span i j a b + 1) % 7)) (sym z)
          ∙ ap (λ x. (b + 1) % q + q * ((span i j a b + x) % 7)) (sym d)
          ∙ carried q 7 b (span i j a b) 1 w.some (omega arith)
          ∙ ap (λ x. (b + q * span i j a b + 1) % x) (mul_comm q 7)

  week_date : (a b c d : ℕ) → b < q → d < q → week_place q i j a b ≡ week_place q i j c d → b ≡ d
  week_date a b c d hb hd e = pair_low q b (span i j a b) d (span i j c d) hb hd e

  week_day : (a b c d : ℕ) → a < 7 → b < q → c < 7 → d < q → week_place q i j a b ≡ week_place q i j c d → a ≡ c
  week_day a b c d ha hb hc hd e =
      let same = pair_high q b (span i j a b) d (span i j c d) hb hd e in
      span_tells (j * b) a c ha hc (same ∙ ap (span i j c) (sym (week_date a b c d hb hd e)))

  pub joined : Joined 7 q (week_place q i j)
  joined = record {
    within = λ a b ha hb. week_within a b hb;
    onward = λ a b ha hb. week_onward a b hb;
    first = week_day;
    second = λ a b c d ha hb hc hd e. week_date a b c d hb hd e;
  }

-- 365 days are 1 more than whole weeks
pub year : Weighs 365 1 6
year = record { some = lit≤ tt; stays = refl; weeks = 313; goes = refl; back = 1; tells = refl }

-- 36,525 days are 1 less than whole weeks
pub hundred_years : Weighs 36525 6 1
hundred_years = record { some = lit≤ tt; stays = refl; weeks = 5218; goes = refl; back = 6; tells = refl }

-- ---- weekday 1 to 7 beside a date

abbrev pub weekday : Rolling ℕ
weekday = counter 1 7 (lit≤ tt)

weekday_run : (n w : ℕ) → 1 ≤ w → w ≤ 7 → (w - 1 + n) % 7 + 1 ≡ run weekday n w
weekday_run n w lo hi =
    let p = run_pos weekday n w (lo, hi) in
    let o = (run_ok weekday n w (lo, hi)).0 in
    omega arith

abbrev pub with_weekday : {R : Type 0} (v : Rolling R) (i j : ℕ) → Weighs v.round i j → Rolling (ℕ × R)
with_weekday v i j w = together weekday v (week_place v.round i j) (joined v.round i j w)

-- n days at once
pub week_on : {R : Type 0} (v : Rolling R) (i j : ℕ) (w : Weighs v.round i j) (n a b : ℕ) (r q : R) → 1 ≤ a → a ≤ 7 → b ≡ (a - 1 + n) % 7 + 1 → q ≡ run v n r → (b, q) ≡ run (with_weekday v i j w) n (a, r)
week_on v i j w n a b r q lo hi e f =
    (λ x. ((e ∙ weekday_run n a lo hi) x, f x)) ∙ sym (together_run weekday v (week_place v.round i j) (joined v.round i j w) n a r)
