-- What the MM58167B's counters show is lawful, and tells them.
use Rattle.std.proofs.Common.{◌≡◌, sym, ap, ◌∙◌}
use denote.Struct.Record.{values_one}
use Rattle.clock.specs.Mm58167b.{Lawful, read}
use Rattle.clock.specs.Registers167.{counters, face}
use Rattle.clock.specs.declared.mm58167b.Running.{Running}
use Rattle.clock.specs.contracts.month_day.MonthDay as date
use Rattle.clock.specs.contracts.mm58167b.Running as running
use Rattle.clock.proofs.Face167.{read_shown, lawful_shown}
use Rattle.clock.proofs.Start167 as start

pub face_lawful : (x : Running) → Lawful (face x)
unfolding face
face_lawful x = lawful_shown (counters x) (start.running x)

-- counters that show one face are the same
pub told_by_face : (a b : Running) → face a ≡ face b → a ≡ b
unfolding face
told_by_face a b e =
    let c : counters a ≡ counters b = sym (read_shown (counters a)) ∙ ap read e ∙ read_shown (counters b) in
    let d : a.date ≡ b.date = values_one date.struct date.the_propositions a.date b.date (λ i. ((c i).day, ((c i).month, tt))) in
    values_one running.struct (running.the_propositions (date.the_row).coded) a b
    (λ i. ((c i).milliseconds, ((c i).hundredths, ((c i).seconds, ((c i).minutes, ((c i).hours, ((c i).weekday, (d i, tt))))))))
