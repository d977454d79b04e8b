-- The MM58274C's face comes round.
use Rattle.std.proofs.Common.{◌≡◌, ℕ, ◌+◌, ◌*◌, ◌/◌, ◌%◌, ◌<◌, ◌≤◌, Bool, true, false, eqb, List, [], ◌∷◌, get_or, take, sym, refl, ◌∙◌, subst, zero-le, arith, lit≤, get_or-take}
use Rattle.std.proofs.ByRecursion.{All-get_or}
use Rattle.std.proofs.lemmas.Bool.{eqb-true, eqb-false, eq-eqb, ne_eqb}
use Rattle.clock.specs.Rounds.{RoundLaw}
use Rattle.clock.specs.Mm58274c.{Counters, InRange, HoursInRange, Lawful, tick, shown, read, step, bit, last_hour}
use Rattle.clock.proofs.Rolling.{Rolling}
use Rattle.clock.proofs.Cascade.{counter_into, cascade}
use Rattle.clock.proofs.Dates.{Date, dates, days_most}
use Rattle.clock.proofs.Years.{century}
use Rattle.clock.proofs.Weeks.{with_weekday, hundred_years}
use Rattle.clock.proofs.Hours.{Hours, hours, hours_end}
use Rattle.clock.proofs.Faces.{spelled, units, tens, two_of}
use Rattle.clock.proofs.FaceLaw.{Layout, layout_law}

-- the counters, each below what it carries into
abbrev pub Nested : Type 0
Nested = ℕ × (ℕ × (ℕ × (Hours × (ℕ × Date (ℕ × ℕ)))))

abbrev pub week_and_date : Rolling (ℕ × Date (ℕ × ℕ))
week_and_date = with_weekday (dates century) 6 1 hundred_years

abbrev pub day_and_hours : Rolling (Hours × (ℕ × Date (ℕ × ℕ)))
day_and_hours = cascade hours (λ p. last_hour p.2 p.0 p.1) hours_end week_and_date

abbrev pub chip : Rolling Nested
chip = counter_into 9 (counter_into 59 (counter_into 59 day_and_hours))

abbrev pub nest : Counters → Nested
nest c = (c.tenths, (c.seconds, (c.minutes, ((c.hours, c.pm, c.mode24), (c.weekday, (c.day, c.month, (c.leap, c.year)))))))

abbrev pub flat : Nested → Counters
flat p = record {
  tenths = p.0;
  seconds = p.1.0;
  minutes = p.1.1.0;
  hours = p.1.1.1.0.0;
  pm = p.1.1.1.0.1;
  mode24 = p.1.1.1.0.2;
  weekday = p.1.1.1.1.0;
  day = p.1.1.1.1.1.0;
  month = p.1.1.1.1.1.1;
  leap = p.1.1.1.1.1.2.0;
  year = p.1.1.1.1.1.2.1;
}

pub range_ok : (c : Counters) → InRange c → chip.Ok (nest c)
range_ok c h = ((zero-le, h.tenths), ((zero-le, h.seconds), ((zero-le, h.minutes), (h.hours, (h.weekday, ((h.month.0, h.month.1, h.day.0, h.day.1), (h.leap, h.year)))))))

pub ok_range : (c : Counters) → chip.Ok (nest c) → InRange c
ok_range c h = record {
  tenths = h.0.1;
  seconds = h.1.0.1;
  minutes = h.1.1.0.1;
  hours = h.1.1.1.0;
  weekday = h.1.1.1.1.0;
  month = (h.1.1.1.1.1.0.0, h.1.1.1.1.1.0.1);
  day = (h.1.1.1.1.1.0.2, h.1.1.1.1.1.0.3);
  leap = h.1.1.1.1.1.1.0;
  year = h.1.1.1.1.1.1.1;
}

-- ---- the face

setting_leap : (l : ℕ) (pm mode : Bool) → (4 * l + 2 * bit pm + bit mode) / 4 ≡ l
setting_leap l true true = omega arith
setting_leap l true false = omega arith
setting_leap l false true = omega arith
setting_leap l false false = omega arith

setting_pm : (l : ℕ) (pm mode : Bool) → eqb ((4 * l + 2 * bit pm + bit mode) / 2 % 2) 1 ≡ pm
setting_pm l true mode = eq-eqb ((4 * l + 2 * 1 + bit mode) / 2 % 2) 1 (go mode)
  where
    go : (mode : Bool) → (4 * l + 2 * 1 + bit mode) / 2 % 2 ≡ 1
    go true = omega arith
    go false = omega arith
setting_pm l false mode = ne_eqb ((4 * l + 2 * 0 + bit mode) / 2 % 2) 1 (λ e. go mode e)
  where
    go : (mode : Bool) → (4 * l + 2 * 0 + bit mode) / 2 % 2 ≡ 1 → ⊥
    go true e = omega arith
    go false e = omega arith

setting_mode : (l : ℕ) (pm mode : Bool) → eqb ((4 * l + 2 * bit pm + bit mode) % 2) 1 ≡ mode
setting_mode l pm true = eq-eqb ((4 * l + 2 * bit pm + 1) % 2) 1 (omega arith)
setting_mode l pm false = ne_eqb ((4 * l + 2 * bit pm + 0) % 2) 1 (λ e. omega arith)

pub read_shown : (c : Counters) → read (shown c) ≡ c
read_shown c = λ i. record {
  tenths = c.tenths;
  seconds = two_of c.seconds i;
  minutes = two_of c.minutes i;
  hours = two_of c.hours i;
  pm = setting_pm c.leap c.pm c.mode24 i;
  mode24 = setting_mode c.leap c.pm c.mode24 i;
  weekday = c.weekday;
  day = two_of c.day i;
  month = two_of c.month i;
  leap = setting_leap c.leap c.pm c.mode24 i;
  year = two_of c.year i;
}

bit_of : (x : ℕ) → x < 2 → bit (eqb x 1) ≡ x
bit_of x h = go (eqb x 1) refl
  where
    go : (b : Bool) → eqb x 1 ≡ b → bit b ≡ x
    go true e = sym (eqb-true x 1 e)
    go false e = let n = eqb-false x 1 e in omega (arith, n)

setting_is : (s : ℕ) → s ≡ 4 * (s / 4) + 2 * bit (eqb (s / 2 % 2) 1) + bit (eqb (s % 2) 1)
setting_is s =
    let a = bit_of (s / 2 % 2) (omega arith) in
    let b = bit_of (s % 2) (omega arith) in
    omega arith

pub shown_read : (f : List ℕ) → Lawful f → f ≡ shown (read f)
shown_read f h =
    let d : ℕ → ℕ = λ k. get_or f k 0 in
    let l = h.decimal in
    spelled 15 f h.columns
    ∙ (λ i.
    d 0
    ∷ units (d 1) (d 2) (l 1 (lit≤ tt)) i ∷ tens (d 1) (d 2) (l 1 (lit≤ tt)) i
    ∷ units (d 3) (d 4) (l 3 (lit≤ tt)) i ∷ tens (d 3) (d 4) (l 3 (lit≤ tt)) i
    ∷ units (d 5) (d 6) (l 5 (lit≤ tt)) i ∷ tens (d 5) (d 6) (l 5 (lit≤ tt)) i
    ∷ units (d 7) (d 8) (l 7 (lit≤ tt)) i ∷ tens (d 7) (d 8) (l 7 (lit≤ tt)) i
    ∷ units (d 9) (d 10) (l 9 (lit≤ tt)) i ∷ tens (d 9) (d 10) (l 9 (lit≤ tt)) i
    ∷ units (d 11) (d 12) (l 11 (lit≤ tt)) i ∷ tens (d 11) (d 12) (l 11 (lit≤ tt)) i
    ∷ d 13
    ∷ setting_is (d 14) i
    ∷ [])

hours_most : (mode : Bool) (h : ℕ) (pm : Bool) → HoursInRange mode h pm → h ≤ 23
hours_most true h pm k = k.1
hours_most false h pm k = omega arith

pub lawful_shown : (c : Counters) → InRange c → Lawful (shown c)
lawful_shown c h = record {
  columns = refl;
  decimal = λ k l.
      subst (λ x. x ≤ 9) (get_or-take 14 (shown c) k 0 l)
      (All-get_or (λ x. x ≤ 9) (take 14 (shown c)) k 0 l
      (let m = days_most c.month (eqb c.leap 0) in let d = h.day.1 in let g = hours_most c.mode24 c.hours c.pm h.hours in omega arith));
  in_range = subst InRange (sym (read_shown c)) h;
}

abbrev pub layout : Layout Counters
layout = record {
  S = Nested;
  counting = chip;
  InRange = InRange;
  Lawful = Lawful;
  tick = tick;
  shown = shown;
  read = read;
  nest = nest;
  flat = flat;
  back = λ c. refl;
  ticks = λ c. refl;
  range_ok = range_ok;
  ok_range = ok_range;
  fits = λ f h. h.in_range;
  lawful = lawful_shown;
  read_shown = read_shown;
  shown_read = shown_read;
}

pub round_law : RoundLaw Lawful step 220903200000
unfolding step
round_law = layout_law layout
