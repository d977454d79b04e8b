-- The chip rules: what a chip may answer to an ask, and what it may be then.
use Rattle.std.specs.Prelude.{◌≡◌, ℕ, ◌+◌, ◌%◌, ◌^◌, ◌<◌, ◌≤◌, Bool, true, false, cond, not, ◌||◌, List, [], ◌∷◌, Ok, Err, Result, nat_lt, slice_index}
use Rattle.clock.specs.Divider.{period}
use Rattle.clock.specs.Times.{times}
use Rattle.chips.specs.declared.ask.Ask.{Ask}
use Rattle.chips.specs.declared.ask.Ask.TheVariants.{Wait, Arm, Digit, Settle, Read, Take, Write}
use Rattle.chips.specs.declared.ask.Waited.{Waited}
use Rattle.chips.specs.declared.refusal.Refusal.{Refusal}
use Rattle.chips.specs.declared.refusal.Refusal.TheVariants.{TooOld, NoColumn}
use Rattle.chips.specs.Kind.{Kind, State, divider_of, one_more, steps_in}
use Rattle.chips.specs.Questions.{Question, ◌unless◌, Asked}

-- what a chip answers to an ask
abbrev pub Reply : Ask → Type 0
Reply (Wait n) = Result Waited Refusal
Reply Arm = Unit {0}
Reply (Digit i) = Result ℕ Refusal
Reply Settle = Bool
Reply (Read a) = Result ℕ Refusal
Reply Take = Bool
Reply (Write a v) = Result (Unit {0}) Refusal

-- the answers that a chip gives to an ask, and the chips that it then is
abbrev pub Does : Type 0 → Type 1
Does C = C → (a : Ask) → Reply a → C → Type 0

-- an accepted wait of n cycles that answers v
pub record Waits (k : Kind) (s : State) (n : ℕ) (v : Waited) (t : State) : Type 0 where
  pub steps : v.steps ≡ steps_in k s n
  pub face : t.face ≡ times v.steps k.step s.face
  pub held : t.held ≡ cond s.running ((s.held + n) % period (divider_of k s)) s.held
  pub age : t.age ≡ s.age + n
  pub running : t.running ≡ s.running
  pub armed : t.armed ≡ s.armed
  pub doubt : s.armed ≡ true → t.doubt ≡ (s.doubt || nat_lt 0 v.steps)
  pub rung_never_falls : s.rung ≡ true → t.rung ≡ true
  pub calls : t.calls ≡ s.calls

-- one more call, and nothing else but armed and doubt
pub record OneCall (s t : State) : Type 0 where
  pub face : t.face ≡ s.face
  pub held : t.held ≡ s.held
  pub age : t.age ≡ s.age
  pub running : t.running ≡ s.running
  pub rung : t.rung ≡ s.rung
  pub calls : t.calls ≡ one_more s.calls

pub record Arms (s t : State) : Type 0 where
  pub one_call : OneCall s t
  pub armed : t.armed ≡ true
  pub doubt : t.doubt ≡ false

-- the digit of column i is the face's where the chip is armed without doubt
pub record Digits (s : State) (i v : ℕ) (t : State) : Type 0 where
  pub one_call : OneCall s t
  pub armed : t.armed ≡ s.armed
  pub doubt : t.doubt ≡ s.doubt
  pub shown : s.armed ≡ true → s.doubt ≡ false → v ≡ slice_index s.face i
  pub of_4_bits : v ≤ 15

-- what a settle on an unarmed chip answers, and whether it arms, is left open
pub record Settles (s : State) (quiet : Bool) (t : State) : Type 0 where
  pub one_call : OneCall s t
  pub answers : s.armed ≡ true → quiet ≡ not s.doubt
  pub armed : s.armed ≡ true → t.armed ≡ true
  pub doubt : s.armed ≡ true → t.doubt ≡ false

pub record Stays (s t : State) : Type 0 where
  pub face : t.face ≡ s.face
  pub held : t.held ≡ s.held
  pub age : t.age ≡ s.age
  pub running : t.running ≡ s.running
  pub calls : t.calls ≡ s.calls

pub record Takes (s : State) (rang : Bool) (t : State) : Type 0 where
  pub stays : Stays s t
  pub answers : rang ≡ s.rung
  pub clears : t.rung ≡ false

pub record Writes (s t : State) : Type 0 where
  pub age : t.age ≡ s.age
  pub calls : t.calls ≡ s.calls

-- a wait is refused where the age would pass its limit, and a digit where there is no such column, and for nothing else
abbrev pub wait_questions : State → ℕ → List Question
wait_questions s n = TooOld unless (s.age + n ≤ 2 ^ 60) ∷ []

abbrev pub digit_questions : Kind → ℕ → List Question
digit_questions k i = NoColumn unless (i < k.columns) ∷ []

-- x is asked a, answers r and is y then
abbrev pub Rule : {C : Type 0} → Kind → (C → State) → C → (a : Ask) → Reply a → C → Type 0
Rule k st x (Wait n) r y = Asked (wait_questions (st x) n) (λ v z. Waits k (st x) n v (st z)) x r y
Rule k st x Arm r y = Arms (st x) (st y)
Rule k st x (Digit i) r y = Asked (digit_questions k i) (λ v z. Digits (st x) i v (st z)) x r y
Rule k st x Settle quiet y = Settles (st x) quiet (st y)
Rule k st x (Read a) (Ok v) y = Stays (st x) (st y)
Rule k st x (Read a) (Err e) y = y ≡ x
Rule k st x Take rang y = Takes (st x) rang (st y)
Rule k st x (Write a v) (Ok u) y = Writes (st x) (st y)
Rule k st x (Write a v) (Err e) y = y ≡ x
