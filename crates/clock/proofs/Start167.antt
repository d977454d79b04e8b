-- The MM58167B's counters made from the digits of a face.
use Rattle.std.proofs.Common.{◌≡◌, ℕ, ◌+◌, ◌*◌, ◌<◌, ◌≤◌, List, length, get_or, sym, ap, ◌∙◌, subst, arith}
use Rattle.std.proofs.ByRecursion.{All-get_or}
use Rattle.clock.specs.Mm58167b.{InRange, Lawful, read, shown}
use Rattle.clock.specs.Registers167.{counters, face}
use Rattle.clock.specs.declared.mm58167b.Running.{Running}
use Rattle.clock.proofs.Faces.{cols, spelled}
use Rattle.clock.proofs.Face167.{shown_read}

-- what the type of the running counters says
pub running : (r : Running) → InRange (counters r)
running r = record {
  milliseconds = r.part.0;
  hundredths = r.part.1;
  seconds = r.time.0;
  minutes = r.time.1;
  hours = r.time.2;
  weekday = r.week;
  month = r.date.months;
  day = r.date.days;
}

module _ (f : List ℕ) where
  abbrev d : ℕ → ℕ
  d k = get_or f k 0

  pub record Shows (x : Running) : Type 0 where
    pub milliseconds : (x.milliseconds ≡ d 0 + 10 * 0) × (d 0 ≤ 9)
    pub hundredths : (x.hundredths ≡ d 1 + 10 * d 2) × (d 1 ≤ 9) × (d 2 ≤ 9)
    pub seconds : (x.seconds ≡ d 3 + 10 * d 4) × (d 3 ≤ 9) × (d 4 ≤ 9)
    pub minutes : (x.minutes ≡ d 5 + 10 * d 6) × (d 5 ≤ 9) × (d 6 ≤ 9)
    pub hours : (x.hours ≡ d 7 + 10 * d 8) × (d 7 ≤ 9) × (d 8 ≤ 9)
    pub weekday : (x.weekday ≡ d 9 + 10 * 0) × (d 9 ≤ 9)
    pub day : (x.date.day ≡ d 10 + 10 * d 11) × (d 10 ≤ 9) × (d 11 ≤ 9)
    pub month : (x.date.month ≡ d 12 + 10 * d 13) × (d 12 ≤ 9) × (d 13 ≤ 9)

  pub started : (x : Running) → length f ≡ 14 → Shows x → (face x ≡ f) × Lawful f
  unfolding face
  started x len s =
      let t : x.milliseconds ≡ d 0 = omega arith in
      let w : x.weekday ≡ d 9 = omega arith in
      let same : counters x ≡ read f = λ i. record {
        milliseconds = t i;
        hundredths = s.hundredths.0 i;
        seconds = s.seconds.0 i;
        minutes = s.minutes.0 i;
        hours = s.hours.0 i;
        weekday = w i;
        day = s.day.0 i;
        month = s.month.0 i;
      } in
      let P : List ℕ → Type 0 = λ l. (k : ℕ) → k < 14 → get_or l k 0 ≤ 9 in
      let tens : P (cols 14 d) = λ k l.
      All-get_or (λ v. v ≤ 9) (cols 14 d) k 0 l
      (s.milliseconds.1, (s.hundredths.1, (s.hundredths.2, (s.seconds.1, (s.seconds.2, (s.minutes.1, (s.minutes.2, (s.hours.1, (s.hours.2, (s.weekday.1, (s.day.1, (s.day.2, (s.month.1, (s.month.2, tt)))))))))))))) in
      let lawful : Lawful f = record { columns = len; decimal = subst P (sym (spelled 14 f len)) tens; in_range = subst InRange same (running x) } in
      (ap shown same ∙ sym (shown_read f lawful), lawful)
