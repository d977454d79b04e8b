-- What a kind of chip does, exactly: functions on what a chip holds.
use Rattle.std.specs.Prelude.{◌≡◌, ℕ, Bool, List}
use Rattle.chips.specs.declared.ask.Ask.{Ask}
use Rattle.chips.specs.declared.ask.Ask.TheVariants.{Wait, Arm, Digit, Settle, Read, Take, Write}
use Rattle.chips.specs.declared.ask.Waited.{Waited}
use Rattle.chips.specs.Kind.{Kind, State}
use Rattle.chips.specs.Questions.{Question, Gives}
use Rattle.chips.specs.Rules.{Does, wait_questions, digit_questions}

-- what is answered to an ask that is not refused
abbrev pub Answer : Ask → Type 0
Answer (Wait n) = Waited
Answer Arm = Unit {0}
Answer (Digit i) = ℕ
Answer Settle = Bool
Answer (Read a) = ℕ
Answer Take = Bool
Answer (Write a v) = Unit {0}

-- R is what a chip of the kind holds
pub record Behaviour (R : Type 0) : Type 1 where
  pub kind : Kind
  -- what this means to the chip rules
  pub meaning : R → State
  -- what is asked before a read and before a write
  pub read_questions : ℕ → List Question
  pub write_questions : R → ℕ → ℕ → List Question
  -- the answer to an ask that is not refused, and what the chip holds then
  pub answer : R → (a : Ask) → Answer a
  pub after : R → Ask → R

-- A chip x is asked, answers r and is y then. Arms, settles and takes are never refused.
abbrev pub does_by : {C R : Type 0} → Behaviour R → (C → R) → Does C
does_by b holds x (Wait n) r y = Gives holds (wait_questions (b.meaning (holds x)) n) (b.answer (holds x) (Wait n)) (b.after (holds x) (Wait n)) x r y
does_by b holds x Arm r y = holds y ≡ b.after (holds x) Arm
does_by b holds x (Digit i) r y = Gives holds (digit_questions b.kind i) (b.answer (holds x) (Digit i)) (b.after (holds x) (Digit i)) x r y
does_by b holds x Settle quiet y = (quiet ≡ b.answer (holds x) Settle) × (holds y ≡ b.after (holds x) Settle)
does_by b holds x (Read a) r y = Gives holds (b.read_questions a) (b.answer (holds x) (Read a)) (b.after (holds x) (Read a)) x r y
does_by b holds x Take rang y = (rang ≡ b.answer (holds x) Take) × (holds y ≡ b.after (holds x) Take)
does_by b holds x (Write a v) r y = Gives holds (b.write_questions (holds x) a v) (b.answer (holds x) (Write a v)) (b.after (holds x) (Write a v)) x r y
