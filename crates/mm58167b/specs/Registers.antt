-- What an MM58167B holds, and what a step and an access make of it.
use Rattle.std.specs.Prelude.{◌≡◌, ℕ, ◌+◌, ◌-◌, ◌%◌, ◌≤◌, Bool, true, false, cond, not, ◌&&◌, ◌||◌, ◌⊎◌, List, [], ◌∷◌, ◌++◌, ◌==◌, ◌≢◌, nat_lt, slice_index}
use Rattle.clock.specs.Divider.{period, stepped, milliseconds}
use Rattle.clock.specs.Mm58167b.{Lawful, step}
use Rattle.clock.specs.Times.{times}
use Rattle.chips.specs.declared.refusal.Refusal.TheVariants.{NoAddress, NotWritable, TooWide, Unlawful}
use Rattle.chips.specs.Kind.{one_more}
use Rattle.chips.specs.Questions.{Question, ◌unless◌}
use Rattle.mm58167b.specs.Layout.{byte, with_byte}

pub record Registers : Type 0 where
  -- fourteen digits: addresses 0 to 7, low half first
  pub digits : List ℕ
  -- the cycles that the divider holds
  pub held : ℕ
  -- fourteen digits in the same layout: addresses 8 to 15
  pub ram : List ℕ
  -- the rollover status, at address 20
  pub status : Bool
  -- a counter has been read since the status was; if the status never was, since the chip was made
  pub seen : Bool
  pub armed : Bool
  pub age : ℕ
  pub calls : ℕ

-- ---- waits

-- One step: the counters move, and the status is set if a counter has been read since it was.
abbrev pub stepped_on : Registers → Registers
stepped_on s = record {
  digits = step s.digits;
  held = s.held;
  ram = s.ram;
  status = s.status || s.seen;
  seen = s.seen;
  armed = s.armed;
  age = s.age;
  calls = s.calls;
}

-- n cycles are waited
abbrev pub aged : ℕ → Registers → Registers
aged n s = record {
  digits = s.digits;
  held = (s.held + n) % period milliseconds;
  ram = s.ram;
  status = s.status;
  seen = s.seen;
  armed = s.armed;
  age = s.age + n;
  calls = s.calls;
}

-- the steps that a wait of n cycles counts
abbrev pub steps_of : Registers → ℕ → ℕ
steps_of s n = stepped milliseconds s.held n

-- its steps one after the other, and its cycles
abbrev pub waited : Registers → ℕ → Registers
waited s n = aged n (times (steps_of s n) stepped_on s)

-- ---- reads

abbrev pub with_status : Registers → Bool → Bool → Bool → ℕ → Registers
with_status s status seen armed calls = record {
  digits = s.digits;
  held = s.held;
  ram = s.ram;
  status = status;
  seen = seen;
  armed = armed;
  age = s.age;
  calls = calls;
}

-- what a read answers: at 20 the status, at 0 to 7 counters, at 8 to 15 RAM
abbrev pub shown_at : Registers → ℕ → ℕ
shown_at s a = cond (a == 20) (cond s.status 1 0) (cond (nat_lt a 8) (byte s.digits a) (byte s.ram (a - 8)))

-- a read at 20 clears the status, and nobody watches it then; a counter that is read is noted; RAM that is read changes nothing
abbrev pub after_read : Registers → ℕ → Registers
after_read s a =
    cond (a == 20) (with_status s false false false s.calls)
    (cond (nat_lt a 8) (with_status s s.status true s.armed s.calls) s)

-- there are addresses 0 to 15 and 20
abbrev pub HasAddress : ℕ → Type 0
HasAddress a = (a ≤ 15) ⊎ (a ≡ 20)

abbrev pub read_questions : ℕ → List Question
read_questions a = NoAddress unless (HasAddress a) ∷ []

-- ---- a reading

-- to arm and to settle is to read address 20, and then address 0, a counter
abbrev pub watched : Registers → Registers
watched s = let t = after_read (after_read s 20) 0 in with_status t t.status t.seen true (one_more s.calls)

-- a digit is read as a counter is, and leaves the chip armed or unarmed
abbrev pub looked : Registers → Registers
looked s = with_status s s.status true s.armed (one_more s.calls)

-- The chip rules leave open what a digit shows on an unarmed chip or under doubt: here the column as it then is,
abbrev pub unsure_digit : Registers → ℕ → ℕ
unsure_digit s i = slice_index s.digits i

-- and what an unarmed settle answers: here whether the status was clear. It arms as any settle does.
abbrev pub unarmed_settle : Registers → Bool
unarmed_settle s = not s.status

abbrev pub digit_of : Registers → ℕ → ℕ
digit_of s i = cond (s.armed && not s.status) (slice_index s.digits i) (unsure_digit s i)

abbrev pub settles : Registers → Bool
settles s = cond s.armed (not s.status) (unarmed_settle s)

-- ---- writes

abbrev pub with_digits : Registers → List ℕ → List ℕ → Registers
with_digits s digits ram = record {
  digits = digits;
  held = s.held;
  ram = ram;
  status = s.status;
  seen = s.seen;
  armed = s.armed;
  age = s.age;
  calls = s.calls;
}

-- at 0 to 7 counters, at 8 to 15 RAM
abbrev pub written : Registers → ℕ → ℕ → Registers
written s a v =
    cond (nat_lt a 8) (with_digits s (with_byte s.digits a v) s.ram) (with_digits s s.digits (with_byte s.ram (a - 8) v))

-- before a write: the status is read only, and values have eight bits
abbrev pub access_questions : ℕ → ℕ → List Question
access_questions a v =
    NoAddress unless (HasAddress a)
    ∷ NotWritable unless (a ≢ 20)
    ∷ TooWide unless (v ≤ 255)
    ∷ []

-- and then: the chip, which runs, holds a lawful face
abbrev pub write_questions : Registers → ℕ → ℕ → List Question
write_questions s a v = access_questions a v ++ (Unlawful unless (Lawful (written s a v).digits) ∷ [])

-- as it is made: 00:00:00.000 on 1 January, day of week 1; divider, RAM and status 0
abbrev pub made : Registers
made = record {
  digits = 0 ∷ 0 ∷ 0 ∷ 0 ∷ 0 ∷ 0 ∷ 0 ∷ 0 ∷ 0 ∷ 1 ∷ 1 ∷ 0 ∷ 1 ∷ 0 ∷ [];
  held = 0;
  ram = 0 ∷ 0 ∷ 0 ∷ 0 ∷ 0 ∷ 0 ∷ 0 ∷ 0 ∷ 0 ∷ 0 ∷ 0 ∷ 0 ∷ 0 ∷ 0 ∷ [];
  status = false;
  seen = false;
  armed = false;
  age = 0;
  calls = 0;
}
