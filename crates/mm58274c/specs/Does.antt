-- What an MM58274C answers, and what it holds then.
use Rattle.clock.specs.Divider.{tenths}
use Rattle.clock.specs.Mm58274c.{Lawful, step}
use Rattle.chips.specs.declared.ask.Ask.{Ask}
use Rattle.chips.specs.declared.ask.Ask.TheVariants.{Wait, Arm, Digit, Settle, Read, Take, Write}
use Rattle.chips.specs.Behaviour.{Answer, Behaviour}
use Rattle.chips.specs.Kind.{Kind}
use Rattle.mm58274c.specs.Registers.{Registers, steps_of, waited, watched, digit_of, looked, settles, read_questions, shown_at, after_read, rung, taken, write_questions, written}
use Rattle.mm58274c.specs.View.{meaning}

abbrev pub kind : Kind
kind = record { columns = 15; round = 220903200000; divider = tenths; lawful = Lawful; step = step }

-- the answer to an ask that is not refused
abbrev pub answer : Registers → (a : Ask) → Answer a
answer s (Wait n) = record { steps = steps_of s n }
answer s Arm = tt
answer s (Digit i) = digit_of s i
answer s Settle = settles s
answer s (Read a) = shown_at s a
answer s Take = rung s
answer s (Write a v) = tt

-- what the chip holds then
abbrev pub after : Registers → Ask → Registers
after s (Wait n) = waited s n
after s Arm = watched s
after s (Digit i) = looked s
after s Settle = watched s
after s (Read a) = after_read s a
after s Take = taken s
after s (Write a v) = written s a v

abbrev pub behaviour : Behaviour Registers
behaviour = record {
  kind = kind;
  meaning = meaning;
  read_questions = read_questions;
  write_questions = write_questions;
  answer = answer;
  after = after;
}
