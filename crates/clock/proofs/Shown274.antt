-- What the MM58274C's counters show is lawful, and tells them.
use Rattle.std.proofs.Common.{◌≡◌, sym, ap, ◌∙◌}
use denote.Struct.Record.{values_one}
use Rattle.std.proofs.lemmas.Bool.{false≢true, true≢false}
use Rattle.clock.specs.Mm58274c.{Lawful, read}
use Rattle.clock.specs.Hours as hours
use Rattle.clock.specs.Registers274.{counters, face}
use Rattle.clock.specs.declared.hour.Hour.{Hour}
use Rattle.clock.specs.declared.hour.Hour.TheVariants.{Am, Pm, TwentyFour}
use Rattle.clock.specs.declared.date.Date.{Date}
use Rattle.clock.specs.declared.hour.HourOfDay.{HourOfDay}
use Rattle.clock.specs.declared.mm58274c.Running.{Running}
use Rattle.clock.specs.contracts.date.Date as date
use Rattle.clock.specs.contracts.hour.HourOfDay as hour
use Rattle.clock.specs.contracts.hour.Hour as shown
use Rattle.clock.specs.contracts.mm58274c.Running as running
use Rattle.clock.proofs.Face274.{read_shown, lawful_shown}
use Rattle.clock.proofs.Start274 as start

pub face_lawful : (x : Running) → Lawful (face x)
unfolding face
face_lawful x = lawful_shown (counters x) (start.running x)

-- ---- counters that show one face are the same

shown_told : (a b : Hour) → hours.hours a ≡ hours.hours b → hours.is_pm a ≡ hours.is_pm b → hours.mode24 a ≡ hours.mode24 b → a ≡ b
shown_told (Am x) (Am y) p q r = ap Am p
shown_told (Pm x) (Pm y) p q r = ap Pm p
shown_told (TwentyFour x) (TwentyFour y) p q r = ap TwentyFour p
shown_told (Am x) (Pm y) p q r = absurd (false≢true q)
shown_told (Pm x) (Am y) p q r = absurd (true≢false q)
shown_told (Am x) (TwentyFour y) p q r = absurd (false≢true r)
shown_told (TwentyFour x) (Am y) p q r = absurd (true≢false r)
shown_told (Pm x) (TwentyFour y) p q r = absurd (false≢true r)
shown_told (TwentyFour x) (Pm y) p q r = absurd (true≢false r)

date_told : (a b : Date) → a.day ≡ b.day → a.month ≡ b.month → a.leap ≡ b.leap → a.year ≡ b.year → a ≡ b
date_told a b p q r s = values_one date.struct date.the_propositions a b (λ i. (p i, (q i, (r i, (s i, tt)))))

hour_told : (a b : HourOfDay) → hours.hours a.hour ≡ hours.hours b.hour → hours.is_pm a.hour ≡ hours.is_pm b.hour → hours.mode24 a.hour ≡ hours.mode24 b.hour → a ≡ b
hour_told a b p q r = let e = shown_told a.hour b.hour p q r in values_one hour.struct (hour.the_propositions (shown.the_row).coded) a b (λ i. (e i, tt))

pub told_by_face : (a b : Running) → face a ≡ face b → a ≡ b
unfolding face
told_by_face a b e =
    let c : counters a ≡ counters b = sym (read_shown (counters a)) ∙ ap read e ∙ read_shown (counters b) in
    let h = hour_told a.hour b.hour (ap (λ x. x.hours) c) (ap (λ x. x.pm) c) (ap (λ x. x.mode24) c) in
    let d = date_told a.date b.date (ap (λ x. x.day) c) (ap (λ x. x.month) c) (ap (λ x. x.leap) c) (ap (λ x. x.year) c) in
    values_one running.struct (running.the_propositions (hour.the_row).coded (date.the_row).coded) a b
    (λ i. ((c i).tenths, ((c i).seconds, ((c i).minutes, (h i, ((c i).weekday, (d i, tt)))))))
