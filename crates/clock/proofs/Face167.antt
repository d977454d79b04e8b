-- The MM58167B's face comes round.
use Rattle.std.proofs.Common.{◌≡◌, ℕ, ◌≤◌, false, List, [], ◌∷◌, get_or, sym, refl, ◌∙◌, subst, zero-le, arith, lit≤}
use Rattle.std.proofs.ByRecursion.{All-get_or}
use Rattle.clock.specs.Rounds.{RoundLaw}
use Rattle.clock.specs.Mm58167b.{Counters, InRange, Lawful, tick, shown, read, step}
use Rattle.clock.proofs.Rolling.{Rolling}
use Rattle.clock.proofs.Cascade.{counter_into}
use Rattle.clock.proofs.Dates.{Date, dates, days_most}
use Rattle.clock.proofs.Years.{plain}
use Rattle.clock.proofs.Weeks.{with_weekday, year}
use Rattle.clock.proofs.Faces.{spelled, units, tens, two_of}
use Rattle.clock.proofs.FaceLaw.{Layout, layout_law}

-- the counters, each below what it carries into
abbrev pub Nested : Type 0
Nested = ℕ × (ℕ × (ℕ × (ℕ × (ℕ × (ℕ × Date (Unit {0}))))))

abbrev pub week_and_date : Rolling (ℕ × Date (Unit {0}))
week_and_date = with_weekday (dates plain) 1 6 year

abbrev pub chip : Rolling Nested
chip = counter_into 9 (counter_into 99 (counter_into 59 (counter_into 59 (counter_into 23 week_and_date))))

abbrev pub nest : Counters → Nested
nest c = (c.milliseconds, (c.hundredths, (c.seconds, (c.minutes, (c.hours, (c.weekday, (c.day, c.month, tt)))))))

abbrev pub flat : Nested → Counters
flat p = record {
  milliseconds = p.0;
  hundredths = p.1.0;
  seconds = p.1.1.0;
  minutes = p.1.1.1.0;
  hours = p.1.1.1.1.0;
  weekday = p.1.1.1.1.1.0;
  day = p.1.1.1.1.1.1.0;
  month = p.1.1.1.1.1.1.1;
}

pub range_ok : (c : Counters) → InRange c → chip.Ok (nest c)
range_ok c h = ((zero-le, h.milliseconds), ((zero-le, h.hundredths), ((zero-le, h.seconds), ((zero-le, h.minutes), ((zero-le, h.hours), (h.weekday, ((h.month.0, h.month.1, h.day.0, h.day.1), tt)))))))

pub ok_range : (c : Counters) → chip.Ok (nest c) → InRange c
ok_range c h = record {
  milliseconds = h.0.1;
  hundredths = h.1.0.1;
  seconds = h.1.1.0.1;
  minutes = h.1.1.1.0.1;
  hours = h.1.1.1.1.0.1;
  weekday = h.1.1.1.1.1.0;
  month = (h.1.1.1.1.1.1.0.0, h.1.1.1.1.1.1.0.1);
  day = (h.1.1.1.1.1.1.0.2, h.1.1.1.1.1.1.0.3);
}

-- ---- the face

pub read_shown : (c : Counters) → read (shown c) ≡ c
read_shown c = λ i. record {
  milliseconds = c.milliseconds;
  hundredths = two_of c.hundredths i;
  seconds = two_of c.seconds i;
  minutes = two_of c.minutes i;
  hours = two_of c.hours i;
  weekday = c.weekday;
  day = two_of c.day i;
  month = two_of c.month i;
}

pub shown_read : (f : List ℕ) → Lawful f → f ≡ shown (read f)
shown_read f h =
    let d : ℕ → ℕ = λ k. get_or f k 0 in
    let l = h.decimal in
    spelled 14 f h.columns
    ∙ (λ i.
    d 0
    ∷ units (d 1) (d 2) (l 1 (lit≤ tt)) i ∷ tens (d 1) (d 2) (l 1 (lit≤ tt)) i
    ∷ units (d 3) (d 4) (l 3 (lit≤ tt)) i ∷ tens (d 3) (d 4) (l 3 (lit≤ tt)) i
    ∷ units (d 5) (d 6) (l 5 (lit≤ tt)) i ∷ tens (d 5) (d 6) (l 5 (lit≤ tt)) i
    ∷ units (d 7) (d 8) (l 7 (lit≤ tt)) i ∷ tens (d 7) (d 8) (l 7 (lit≤ tt)) i
    ∷ d 9
    ∷ units (d 10) (d 11) (l 10 (lit≤ tt)) i ∷ tens (d 10) (d 11) (l 10 (lit≤ tt)) i
    ∷ units (d 12) (d 13) (l 12 (lit≤ tt)) i ∷ tens (d 12) (d 13) (l 12 (lit≤ tt)) i
    ∷ [])

pub lawful_shown : (c : Counters) → InRange c → Lawful (shown c)
lawful_shown c h = record {
  columns = refl;
  decimal = λ k l. All-get_or (λ x. x ≤ 9) (shown c) k 0 l (let m = days_most c.month false in let d = h.day.1 in omega arith);
  in_range = subst InRange (sym (read_shown c)) h;
}

abbrev pub layout : Layout Counters
layout = record {
  S = Nested;
  counting = chip;
  InRange = InRange;
  Lawful = Lawful;
  tick = tick;
  shown = shown;
  read = read;
  nest = nest;
  flat = flat;
  back = λ c. refl;
  ticks = λ c. refl;
  range_ok = range_ok;
  ok_range = ok_range;
  fits = λ f h. h.in_range;
  lawful = lawful_shown;
  read_shown = read_shown;
  shown_read = shown_read;
}

pub round_law : RoundLaw Lawful step 220752000000
unfolding step
round_law = layout_law layout
