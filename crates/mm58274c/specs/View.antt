-- The registers of a chip.
use Rattle.std.specs.Prelude.{◌≡◌, true, false, [], ◌∷◌, Ok, Err, Result}
use Rattle.clock.specs.Registers274.{face}
use Rattle.chips.specs.declared.refusal.Refusal.{Refusal}
use Rattle.chips.specs.declared.refusal.Refusal.TheVariants.{Unlawful}
use Rattle.chips.specs.Kind.{State}
use Rattle.chips.specs.Questions.{◌unless◌, Gives}
use Rattle.mm58274c.specs.declared.counters.Counters.{Counters}
use Rattle.mm58274c.specs.declared.counters.Counters.TheVariants.{Stopped, Running}
use Rattle.mm58274c.specs.declared.chip.Mm58274c.{Mm58274c}
use Rattle.mm58274c.specs.Registers.{Time, Registers, RunsLawfully, rung}

abbrev pub time : Counters → Time
time (Stopped digits) = record { digits = digits.columns; running = false; held = 0 }
time (Running clock) = record { digits = face clock.counters; running = true; held = clock.held }

-- the counters' time becomes t, unless they run then and t's digits are no lawful face
abbrev pub Becomes : Time → Result Counters Refusal → Type 0
Becomes t (Ok c) = RunsLawfully t × (time c ≡ t)
Becomes t (Err e) = (RunsLawfully t → ⊥) × (e ≡ Unlawful)

abbrev pub registers : Mm58274c → Registers
registers x = record {
  time = time x.counters;
  select = x.select;
  interrupt = x.interrupt.register.value;
  timer = x.interrupt.timer;
  flags = x.flags;
  armed = x.armed;
  age = x.age.cycles;
  calls = x.calls.made;
}

-- a write makes t of the registers of x, unless t runs with no lawful face
abbrev pub Lands : Registers → Mm58274c → Result (Unit {0}) Refusal → Mm58274c → Type 0
Lands t x r y = Gives registers (Unlawful unless (RunsLawfully t.time) ∷ []) tt t x r y

-- what the registers mean to the chip rules
abbrev pub meaning : Registers → State
meaning s = record {
  face = s.time.digits;
  held = s.time.held;
  age = s.age;
  running = s.time.running;
  armed = s.armed;
  doubt = s.flags.changed;
  rung = rung s;
  calls = s.calls;
}

abbrev pub state : Mm58274c → State
state x = meaning (registers x)
