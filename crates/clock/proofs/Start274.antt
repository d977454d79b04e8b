-- The MM58274C's counters made from the digits of a face.
use Rattle.std.proofs.Common.{◌≡◌, ℕ, ◌+◌, ◌*◌, ◌/◌, ◌%◌, ◌<◌, ◌≤◌, false, ◌&&◌, eqb, List, length, get_or, take, sym, refl, ap, ◌∙◌, subst, zero-le, arith, lit≤, get_or-take}
use Rattle.std.proofs.ByRecursion.{All-get_or}
use Rattle.clock.specs.Counter.{days_of}
use Rattle.clock.specs.Mm58274c.{InRange, Lawful, read, shown}
use Rattle.clock.specs.Hours as hour
use Rattle.clock.specs.declared.hour.Hour.{Hour}
use Rattle.clock.specs.declared.hour.Hour.TheVariants.{Am, Pm, TwentyFour}
use Rattle.clock.specs.Registers274.{counters, face}
use Rattle.clock.specs.Start.{DateShown}
use Rattle.clock.specs.declared.mm58274c.Running.{Running}
use Rattle.clock.proofs.Faces.{cols, spelled}
use Rattle.clock.proofs.Face274.{shown_read}

pub no_pm_in_24_hour_mode : (h : Hour) → (hour.mode24 h && hour.is_pm h) ≡ false
no_pm_in_24_hour_mode (Am h) = refl
no_pm_in_24_hour_mode (Pm h) = refl
no_pm_in_24_hour_mode (TwentyFour h) = refl

-- what the type of the running counters says
pub running : (r : Running) → InRange (counters r)
running r = record {
  tenths = r.ranges.0;
  seconds = r.ranges.1;
  minutes = r.ranges.2;
  hours = (r.hour.shown.0, r.hour.shown.1, no_pm_in_24_hour_mode r.hour.hour);
  weekday = (r.ranges.3, r.ranges.4);
  month = r.date.months;
  day = r.date.days;
  leap = r.date.years.0;
  year = r.date.years.1;
}

module _ (f : List ℕ) where
  abbrev d : ℕ → ℕ
  d k = get_or f k 0

  pub no_date : (leap : ℕ) → leap ≡ d 14 / 4 → (DateShown (d 7, d 8) (d 9, d 10) (d 11, d 12) leap → ⊥) → Lawful f → ⊥
  no_date leap e apart h =
      let l = h.decimal in
      let r = h.in_range in
      let day : d 7 + 10 * d 8 ≤ days_of (d 9 + 10 * d 10) (eqb leap 0) = subst (λ x. d 7 + 10 * d 8 ≤ days_of (d 9 + 10 * d 10) (eqb x 0)) (sym e) r.day.1 in
      apart ((l 7 (lit≤ tt), l 8 (lit≤ tt), r.day.0, day), (l 9 (lit≤ tt), l 10 (lit≤ tt), r.month.0, r.month.1), (l 11 (lit≤ tt), l 12 (lit≤ tt), zero-le, r.year), subst (λ x. x ≤ 3) (sym e) r.leap)

  pub record Shows (x : Running) : Type 0 where
    pub tenths : (x.tenths ≡ d 0 + 10 * 0) × (d 0 ≤ 9)
    pub seconds : (x.seconds ≡ d 1 + 10 * d 2) × (d 1 ≤ 9) × (d 2 ≤ 9)
    pub minutes : (x.minutes ≡ d 3 + 10 * d 4) × (d 3 ≤ 9) × (d 4 ≤ 9)
    pub hours : (hour.hours x.hour.hour ≡ d 5 + 10 * d 6) × (d 5 ≤ 9) × (d 6 ≤ 9)
    pub pm : hour.is_pm x.hour.hour ≡ eqb (d 14 / 2 % 2) 1
    pub mode : hour.mode24 x.hour.hour ≡ eqb (d 14 % 2) 1
    pub day : (x.date.day ≡ d 7 + 10 * d 8) × (d 7 ≤ 9) × (d 8 ≤ 9)
    pub month : (x.date.month ≡ d 9 + 10 * d 10) × (d 9 ≤ 9) × (d 10 ≤ 9)
    pub year : (x.date.year ≡ d 11 + 10 * d 12) × (d 11 ≤ 9) × (d 12 ≤ 9)
    pub leap : x.date.leap ≡ d 14 / 4
    pub weekday : (x.weekday ≡ d 13 + 10 * 0) × (d 13 ≤ 9)

  pub started : (x : Running) → length f ≡ 15 → Shows x → (face x ≡ f) × Lawful f
  unfolding face
  started x len s =
      let t : x.tenths ≡ d 0 = omega arith in
      let w : x.weekday ≡ d 13 = omega arith in
      let same : counters x ≡ read f = λ i. record {
        tenths = t i;
        seconds = s.seconds.0 i;
        minutes = s.minutes.0 i;
        hours = s.hours.0 i;
        pm = s.pm i;
        mode24 = s.mode i;
        weekday = w i;
        day = s.day.0 i;
        month = s.month.0 i;
        leap = s.leap i;
        year = s.year.0 i;
      } in
      let P : List ℕ → Type 0 = λ l. (k : ℕ) → k < 14 → get_or l k 0 ≤ 9 in
      let tens : P (cols 15 d) = λ k l.
      subst (λ v. v ≤ 9) (get_or-take 14 (cols 15 d) k 0 l)
      (All-get_or (λ v. v ≤ 9) (take 14 (cols 15 d)) k 0 l
      (s.tenths.1, (s.seconds.1, (s.seconds.2, (s.minutes.1, (s.minutes.2, (s.hours.1, (s.hours.2, (s.day.1, (s.day.2, (s.month.1, (s.month.2, (s.year.1, (s.year.2, (s.weekday.1, tt))))))))))))))) in
      let lawful : Lawful f = record { columns = len; decimal = subst P (sym (spelled 15 f len)) tens; in_range = subst InRange same (running x) } in
      (ap shown same ∙ sym (shown_read f lawful), lawful)
