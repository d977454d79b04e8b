-- What the type of a chip says of its registers, and that they tell the chip.
use Rattle.std.specs.Prelude.{◌≡◌, ℕ, ◌<◌, ◌≤◌, false, length, slice_index, refl}
use Rattle.std.proofs.Common.{ap, arith}
use denote.Struct.Record.{values_one}
use Rattle.std.proofs.lemmas.Bool.{false≢true, true≢false}
use Rattle.clock.specs.contracts.mm58274c.Running as face
use Rattle.clock.specs.contracts.mm58274c.calendar.RunningCalendar15.TheImpl.{ghosts}
use Rattle.clock.specs.Divider.{period, tenths}
use Rattle.clock.specs.Widths.{columns_274, four_bits_274}
use Rattle.clock.proofs.Periods.{period_some}
use Rattle.clock.proofs.Shown274.{face_lawful, told_by_face}
use Rattle.clock.proofs.Told.{ticking_told}
use Rattle.chips.proofs.Told.{age_told, calls_told, digits_told}
use Rattle.mm58274c.specs.declared.counters.Counters.{Counters}
use Rattle.mm58274c.specs.declared.counters.Counters.TheVariants.{Stopped, Running}
use Rattle.mm58274c.specs.declared.chip.Mm58274c.{Mm58274c}
use Rattle.mm58274c.specs.contracts.timer.Timer as timer
use Rattle.mm58274c.specs.declared.interrupt.Interrupt.{Interrupt}
use Rattle.mm58274c.specs.contracts.interrupt.Interrupt as interrupt
use Rattle.mm58274c.specs.contracts.nibble.Nibble as nibble
use Rattle.mm58274c.specs.Registers.{Time, RunsLawfully}
use Rattle.mm58274c.specs.View.{time, registers}

pub record TimeSound (t : Time) : Type 0 where
  pub long : length t.digits ≡ 15
  pub small : (k : ℕ) → slice_index t.digits k ≤ 15
  pub lawful : RunsLawfully t
  pub below : t.held < period tenths
  pub none_held : t.running ≡ false → t.held ≡ 0

pub time_sound : (c : Counters) → TimeSound (time c)
time_sound (Stopped digits) = record {
  long = digits.long;
  small = digits.small;
  lawful = λ e. absurd (false≢true e);
  below = period_some tenths (record { some_pass = omega arith; some_count = omega arith });
  none_held = λ _. refl;
}
time_sound (Running clock) =
    let law = face_lawful clock.counters in
    record {
      long = columns_274 _ law;
      small = four_bits_274 _ law;
      lawful = λ _. law;
      below = clock.below;
      none_held = λ e. absurd (true≢false e);
    }

counters_told : (a b : Counters) → time a ≡ time b → a ≡ b
counters_told (Stopped a) (Stopped b) e = ap Stopped (digits_told 15 a b (ap (λ t. t.digits) e))
counters_told (Running a) (Running b) e =
    ap Running (ticking_told face.the_row 15 ghosts a b (told_by_face a.counters b.counters (ap (λ t. t.digits) e)) (ap (λ t. t.held) e))
counters_told (Stopped a) (Running b) e = absurd (false≢true (ap (λ t. t.running) e))
counters_told (Running a) (Stopped b) e = absurd (true≢false (ap (λ t. t.running) e))

interrupt_told : (a b : Interrupt) → a.register.value ≡ b.register.value → a.timer ≡ b.timer → a ≡ b
interrupt_told a b e f =
    let r : a.register ≡ b.register = values_one nibble.struct nibble.the_propositions a.register b.register (λ i. (e i, tt)) in
    values_one interrupt.struct (interrupt.the_propositions (nibble.the_row).coded (timer.the_row).coded) a b (λ i. (r i, (f i, tt)))

pub registers_tell : (x y : Mm58274c) → registers x ≡ registers y → x ≡ y
registers_tell x y e =
    let c = counters_told x.counters y.counters (ap (λ s. s.time) e) in
    let age_is = age_told x.age y.age (ap (λ s. s.age) e) in
    let calls_are = calls_told x.calls y.calls (ap (λ s. s.calls) e) in
    let interrupt_is = interrupt_told x.interrupt y.interrupt (ap (λ s. s.interrupt) e) (ap (λ s. s.timer) e) in
    λ i. record { counters = c i; select = (e i).select; interrupt = interrupt_is i; flags = (e i).flags; armed = (e i).armed; age = age_is i; calls = calls_are i }
