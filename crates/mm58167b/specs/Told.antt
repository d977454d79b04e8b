-- The registers tell the chip.
use Rattle.std.specs.Prelude.{◌≡◌}
use Rattle.std.proofs.Common.{ap}
use denote.Param.{number}
use denote.Struct.Record.{values_one}
use Rattle.clock.specs.contracts.mm58167b.Running as counters
use Rattle.clock.specs.contracts.mm58167b.calendar.RunningCalendar14.TheImpl.{ghosts}
use Rattle.clock.specs.contracts.ticking.Ticking as ticking
use Rattle.clock.proofs.Shown167.{told_by_face}
use Rattle.clock.proofs.Told.{ticking_told}
use Rattle.chips.specs.contracts.age.Age as age
use Rattle.chips.specs.contracts.calls.Calls as calls
use Rattle.chips.specs.contracts.digits.Digits as digits
use Rattle.chips.proofs.Told.{age_told, calls_told, digits_told}
use Rattle.mm58167b.specs.declared.chip.Mm58167b.{Mm58167b}
use Rattle.mm58167b.specs.contracts.chip.Mm58167b as chip
use Rattle.mm58167b.specs.View.{registers}

pub registers_tell : (x y : Mm58167b) → registers x ≡ registers y → x ≡ y
registers_tell x y e =
    let clock = ticking_told counters.the_row 14 ghosts x.clock y.clock (told_by_face x.clock.counters y.clock.counters (ap (λ s. s.digits) e)) (ap (λ s. s.held) e) in
    let ram = digits_told 14 x.ram y.ram (ap (λ s. s.ram) e) in
    let age_is = age_told x.age y.age (ap (λ s. s.age) e) in
    let calls_are = calls_told x.calls y.calls (ap (λ s. s.calls) e) in
    values_one chip.struct
    (chip.the_propositions (ticking.the_row counters.the_row (number 14) ghosts).coded (counters.the_row).coded (digits.the_row (number 14)).coded (age.the_row).coded (calls.the_row).coded) x y
    (λ i. (clock i, (ram i, ((e i).status, ((e i).seen, ((e i).armed, (age_is i, (calls_are i, tt))))))))
