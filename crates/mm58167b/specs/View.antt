-- The registers of a chip.
use Rattle.std.specs.Prelude.{true, false, [], ◌∷◌, Result}
use Rattle.clock.specs.Mm58167b.{Lawful}
use Rattle.clock.specs.Registers167.{face}
use Rattle.chips.specs.declared.refusal.Refusal.{Refusal}
use Rattle.chips.specs.declared.refusal.Refusal.TheVariants.{Unlawful}
use Rattle.chips.specs.Kind.{State}
use Rattle.chips.specs.Questions.{◌unless◌, Gives}
use Rattle.mm58167b.specs.declared.chip.Mm58167b.{Mm58167b}
use Rattle.mm58167b.specs.Registers.{Registers}

abbrev pub registers : Mm58167b → Registers
registers x = record {
  digits = face x.clock.counters;
  held = x.clock.held;
  ram = x.ram.columns;
  status = x.status;
  seen = x.seen;
  armed = x.armed;
  age = x.age.cycles;
  calls = x.calls.made;
}

-- a write makes t of the registers of x, unless t has no lawful face
abbrev pub Lands : Registers → Mm58167b → Result (Unit {0}) Refusal → Mm58167b → Type 0
Lands t x r y = Gives registers (Unlawful unless (Lawful t.digits) ∷ []) tt t x r y

-- what the registers mean to the chip rules: the chip always runs and never rings
abbrev pub meaning : Registers → State
meaning s = record {
  face = s.digits;
  held = s.held;
  age = s.age;
  running = true;
  armed = s.armed;
  doubt = s.status;
  rung = false;
  calls = s.calls;
}

abbrev pub state : Mm58167b → State
state x = meaning (registers x)
