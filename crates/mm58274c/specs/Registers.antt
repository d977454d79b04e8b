-- What an MM58274C holds, and what a step and an access make of it.
use Rattle.std.specs.Prelude.{◌≡◌, ℕ, ◌+◌, ◌-◌, ◌*◌, ◌%◌, ◌≤◌, Bool, true, false, cond, not, ◌&&◌, ◌||◌, List, [], ◌∷◌, ◌++◌, ◌==◌, ◌≢◌, slice_index, slice_set}
use Rattle.clock.specs.Divider.{period, stepped, tenths}
use Rattle.clock.specs.Mm58274c.{Lawful, step}
use Rattle.clock.specs.Times.{times}
use Rattle.chips.specs.declared.refusal.Refusal.TheVariants.{NoAddress, NotWritable, TooWide, TestBit, Unlawful}
use Rattle.chips.specs.Kind.{one_more}
use Rattle.chips.specs.Questions.{Question, ◌unless◌}
use Rattle.mm58274c.specs.declared.flags.Flags.{Flags}
use Rattle.mm58274c.specs.declared.timer.Timer.{Timer}
use Rattle.mm58274c.specs.declared.timer.Timer.TheVariants.{Halted}
use Rattle.mm58274c.specs.Bits.{bit, cut, active_bits, stored_setting}
use Rattle.mm58274c.specs.Timer.{started, tick, at_last}

pub record Time : Type 0 where
  -- fifteen digits: addresses 1 to 14, and the setting register
  pub digits : List ℕ
  pub running : Bool
  -- the cycles that the divider holds
  pub held : ℕ

pub record Registers : Type 0 where
  pub time : Time
  -- address 15 is the interrupt register, and not the setting register
  pub select : Bool
  pub interrupt : ℕ
  pub timer : Timer
  pub flags : Flags
  pub armed : Bool
  pub age : ℕ
  pub calls : ℕ

-- ---- waits

-- One step: the counters move, the data-changed flag is set, and the timer counts, which sets the interrupt flag at its last.
abbrev pub stepped_on : Registers → Registers
stepped_on s = record {
  time = record { digits = step s.time.digits; running = s.time.running; held = s.time.held };
  select = s.select;
  interrupt = s.interrupt;
  timer = tick s.interrupt s.timer;
  flags = record { changed = true; rang = s.flags.rang || at_last s.timer; kept = s.flags.kept };
  armed = s.armed;
  age = s.age;
  calls = s.calls;
}

-- n cycles are waited, which a running clock's divider holds too
abbrev pub aged : ℕ → Registers → Registers
aged n s = record {
  time = record {
    digits = s.time.digits;
    running = s.time.running;
    held = cond s.time.running ((s.time.held + n) % period tenths) s.time.held;
  };
  select = s.select;
  interrupt = s.interrupt;
  timer = s.timer;
  flags = s.flags;
  armed = s.armed;
  age = s.age + n;
  calls = s.calls;
}

-- the steps that a wait of n cycles counts; a stopped clock counts none
abbrev pub steps_of : Registers → ℕ → ℕ
steps_of s n = cond s.time.running (stepped tenths s.time.held n) 0

-- its steps one after the other, and its cycles
abbrev pub waited : Registers → ℕ → Registers
waited s n = aged n (times (steps_of s n) stepped_on s)

-- ---- reads

abbrev pub flag : Bool → ℕ
flag b = cond b 1 0

abbrev pub with_flags : Registers → Flags → Bool → ℕ → Registers
with_flags s flags armed calls = record {
  time = s.time;
  select = s.select;
  interrupt = s.interrupt;
  timer = s.timer;
  flags = flags;
  armed = armed;
  age = s.age;
  calls = calls;
}

-- what a read answers: at 0 the data-changed flag in bit 3 and the interrupt flag in bit 0, at 1 to 14 a digit, at 15 what is selected
abbrev pub shown_at : Registers → ℕ → ℕ
shown_at s a =
    cond (a == 0) (8 * flag s.flags.changed + flag s.flags.rang)
    (cond (a == 15) (cond s.select s.interrupt (slice_index s.time.digits 14)) (slice_index s.time.digits (a - 1)))

-- a read at 0 clears both flags, and nobody watches the data-changed flag then; other reads change nothing
abbrev pub after_read : Registers → ℕ → Registers
after_read s a = cond (a == 0) (with_flags s (record { changed = false; rang = false; kept = s.flags.kept }) false s.calls) s

abbrev pub read_questions : ℕ → List Question
read_questions a = NoAddress unless (a ≤ 15) ∷ []

-- ---- a reading

-- to arm and to settle is to read address 0, and to keep a ring that this read clears
abbrev pub watched : Registers → Registers
watched s =
    let t = after_read s 0 in
    with_flags t (record { changed = t.flags.changed; rang = t.flags.rang; kept = s.flags.kept || s.flags.rang }) true (one_more s.calls)

-- a digit disturbs nothing: columns 0 to 13 are addresses 1 to 14, and column 14 is a look at the setting register under either select
abbrev pub looked : Registers → Registers
looked s = with_flags s s.flags s.armed (one_more s.calls)

-- The chip rules leave open what a digit shows on an unarmed chip or under doubt: here the column as it then is,
abbrev pub unsure_digit : Registers → ℕ → ℕ
unsure_digit s i = slice_index s.time.digits i

-- and what an unarmed settle answers: here whether the data-changed flag was clear. It arms as any settle does.
abbrev pub unarmed_settle : Registers → Bool
unarmed_settle s = not s.flags.changed

abbrev pub digit_of : Registers → ℕ → ℕ
digit_of s i = cond (s.armed && not s.flags.changed) (slice_index s.time.digits i) (unsure_digit s i)

abbrev pub settles : Registers → Bool
settles s = cond s.armed (not s.flags.changed) (unarmed_settle s)

-- ---- rings

abbrev pub rung : Registers → Bool
rung s = s.flags.rang || s.flags.kept

abbrev pub taken : Registers → Registers
taken s = with_flags s (record { changed = s.flags.changed; rang = false; kept = false }) s.armed s.calls

-- ---- writes

abbrev pub with_digits : Registers → List ℕ → Registers
with_digits s digits = record {
  time = record { digits = digits; running = s.time.running; held = s.time.held };
  select = s.select;
  interrupt = s.interrupt;
  timer = s.timer;
  flags = s.flags;
  armed = s.armed;
  age = s.age;
  calls = s.calls;
}

-- stop 1 stops the clock and zeroes tenths and divider, stop 0 lets it run
abbrev pub stop_written : Bool → Time → Time
stop_written true t = record { digits = slice_set t.digits 0 0; running = false; held = 0 }
stop_written false t = record { digits = t.digits; running = true; held = t.held }

-- the control register: stop, select and timer halt
abbrev pub controlled : Registers → Bool → Bool → Bool → Registers
controlled s stop select halt = record {
  time = stop_written stop s.time;
  select = select;
  interrupt = s.interrupt;
  timer = cond halt Halted (started s.interrupt s.timer);
  flags = s.flags;
  armed = s.armed;
  age = s.age;
  calls = s.calls;
}

-- address 0: bit 2 stop, bit 1 select, bit 0 timer halt
abbrev pub control_written : Registers → ℕ → Registers
control_written s v = controlled s (bit 2 v) (bit 1 v) (bit 0 v)

-- address 15 with select 1: the timer halts
abbrev pub interrupt_written : Registers → ℕ → Registers
interrupt_written s v = record {
  time = s.time;
  select = s.select;
  interrupt = v;
  timer = Halted;
  flags = s.flags;
  armed = s.armed;
  age = s.age;
  calls = s.calls;
}

-- address 15 with select 0: the hour mode cuts tens of hours to its active bits, and converts nothing
abbrev pub setting_written : List ℕ → ℕ → List ℕ
setting_written digits v =
    slice_set (slice_set digits 14 (stored_setting v)) 6 (cut (active_bits (bit 0 v) 6) (slice_index digits 6))

-- a digit: the bits that are not active are dropped
abbrev pub digit_written : List ℕ → ℕ → ℕ → List ℕ
digit_written digits column v = slice_set digits column (cut (active_bits (bit 0 (slice_index digits 14)) column) v)

abbrev pub written : Registers → ℕ → ℕ → Registers
written s a v =
    cond (a == 0) (control_written s v)
    (cond (a == 15) (cond s.select (interrupt_written s v) (with_digits s (setting_written s.time.digits v)))
    (with_digits s (digit_written s.time.digits (a - 1) v)))

-- a chip that runs holds a lawful face
abbrev pub RunsLawfully : Time → Type 0
RunsLawfully t = t.running ≡ true → Lawful t.digits

-- before a write: there are addresses 0 to 15, tenths are read only, values have four bits, and bit 3 at address 0 is the test bit
abbrev pub access_questions : ℕ → ℕ → List Question
access_questions a v =
    NoAddress unless (a ≤ 15)
    ∷ NotWritable unless (a ≢ 1)
    ∷ TooWide unless (v ≤ 15)
    ∷ TestBit unless (a ≡ 0 → bit 3 v ≡ false)
    ∷ []

-- and then: what runs after the write holds a lawful face
abbrev pub write_questions : Registers → ℕ → ℕ → List Question
write_questions s a v = access_questions a v ++ (Unlawful unless (RunsLawfully (written s a v).time) ∷ [])

-- as it is made: stopped, every register 0, no flag
abbrev pub made : Registers
made = record {
  time = record { digits = 0 ∷ 0 ∷ 0 ∷ 0 ∷ 0 ∷ 0 ∷ 0 ∷ 0 ∷ 0 ∷ 0 ∷ 0 ∷ 0 ∷ 0 ∷ 0 ∷ 0 ∷ []; running = false; held = 0 };
  select = false;
  interrupt = 0;
  timer = Halted;
  flags = record { changed = false; rang = false; kept = false };
  armed = false;
  age = 0;
  calls = 0;
}
