-- What an MM58167B answers, and what it holds then.
use Rattle.std.specs.Prelude.{false}
use Rattle.clock.specs.Divider.{milliseconds}
use Rattle.clock.specs.Mm58167b.{Lawful, step}
use Rattle.chips.specs.declared.ask.Ask.{Ask}
use Rattle.chips.specs.declared.ask.Ask.TheVariants.{Wait, Arm, Digit, Settle, Read, Take, Write}
use Rattle.chips.specs.Behaviour.{Answer, Behaviour}
use Rattle.chips.specs.Kind.{Kind}
use Rattle.mm58167b.specs.Registers.{Registers, steps_of, waited, watched, digit_of, looked, settles, read_questions, shown_at, after_read, write_questions, written}
use Rattle.mm58167b.specs.View.{meaning}

abbrev pub kind : Kind
kind = record { columns = 14; round = 220752000000; divider = milliseconds; lawful = Lawful; step = step }

-- the answer to an ask that is not refused
abbrev pub answer : Registers → (a : Ask) → Answer a
answer s (Wait n) = record { steps = steps_of s n }
answer s Arm = tt
answer s (Digit i) = digit_of s i
answer s Settle = settles s
answer s (Read a) = shown_at s a
-- it never rings
answer s Take = false
answer s (Write a v) = tt

-- what the chip holds then
abbrev pub after : Registers → Ask → Registers
after s (Wait n) = waited s n
after s Arm = watched s
after s (Digit i) = looked s
after s Settle = watched s
after s (Read a) = after_read s a
after s Take = s
after s (Write a v) = written s a v

abbrev pub behaviour : Behaviour Registers
behaviour = record {
  kind = kind;
  meaning = meaning;
  read_questions = read_questions;
  write_questions = write_questions;
  answer = answer;
  after = after;
}
