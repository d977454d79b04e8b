-- What a chip means, and what a kind of chip fixes.
use Rattle.std.specs.Prelude.{◌≡◌, ℕ, ◌+◌, ◌%◌, ◌^◌, ◌<◌, ◌≤◌, Bool, true, false, cond, List, length, slice_index}
use Rattle.clock.specs.Divider.{Divider, Divides, period, stepped}
use Rattle.clock.specs.Rounds.{RoundLaw}
use Rattle.chips.specs.declared.numbers.Numbers.{Numbers}

pub record Kind : Type 1 where
  pub columns : ℕ
  -- the steps after which a face comes back
  pub round : ℕ
  pub divider : Divider
  pub lawful : List ℕ → Type 0
  -- one count of the lowest counter
  pub step : List ℕ → List ℕ

pub record KindLaws (k : Kind) : Type 0 where
  pub few_columns : k.columns ≤ 15
  pub some_round : 1 ≤ k.round
  pub divides : Divides k.divider
  pub rounds : RoundLaw k.lawful k.step k.round

-- the numbers that a kind fixes
pub record Fixed : Type 0 where
  pub columns : ℕ
  pub round : ℕ
  pub divider : Divider

abbrev pub fixed_by : Kind → Fixed
fixed_by k = record { columns = k.columns; round = k.round; divider = k.divider }

abbrev pub numbers : Numbers → Fixed
numbers n = record { columns = n.columns; round = n.round; divider = record { m = n.m; d = n.d; k = n.k } }

pub record State : Type 0 where
  -- what the chip shows, one digit a column
  pub face : List ℕ
  -- the cycles since the divider was zeroed, modulo its period
  pub held : ℕ
  -- all cycles waited since the chip was made
  pub age : ℕ
  pub running : Bool
  -- a reading has begun: steps are noticed
  pub armed : Bool
  -- a step has come since
  pub doubt : Bool
  -- an interrupt has come and was not taken
  pub rung : Bool
  -- the arms, digits and settles answered since the chip was made, modulo 2^32
  pub calls : ℕ

abbrev pub one_more : ℕ → ℕ
one_more calls = (calls + 1) % 2 ^ 32

abbrev pub divider_of : Kind → State → Divider
divider_of k s = k.divider

-- what holds of a chip of the kind k at every moment
pub record Sound (k : Kind) (s : State) : Type 0 where
  pub wide : length s.face ≡ k.columns
  pub digits : (i : ℕ) → slice_index s.face i ≤ 15
  pub lawful_while_running : s.running ≡ true → k.lawful s.face
  pub held_below_the_period : s.held < period (divider_of k s)
  pub none_held_while_stopped : s.running ≡ false → s.held ≡ 0
  pub age_within_the_limit : s.age ≤ 2 ^ 60
  pub calls_of_32_bits : s.calls < 2 ^ 32

-- the steps that a wait of n cycles counts; a stopped chip counts none
abbrev pub steps_in : Kind → State → ℕ → ℕ
steps_in k s n = cond s.running (stepped (divider_of k s) s.held n) 0
