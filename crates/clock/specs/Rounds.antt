-- What every kind of chip owes of its step.
use Rattle.std.specs.Prelude.{◌≡◌, ℕ, ◌+◌, ◌%◌, ◌↔◌, List}
use Rattle.clock.specs.Times.{times}

-- A round is the number of steps after which a face comes back, and never before.
pub record RoundLaw (Lawful : List ℕ → Type 0) (step : List ℕ → List ℕ) (round : ℕ) : Type 0 where
  pub a_step_keeps_a_face_lawful : (face : List ℕ) → Lawful face → Lawful (step face)
  pub zero_steps_leave_a_face : (face : List ℕ) → times 0 step face ≡ face
  pub a_plus_b_steps_are_a_then_b : (a b : ℕ) (face : List ℕ) → times (a + b) step face ≡ times b step (times a step face)
  pub back_exactly_at_whole_rounds : (n : ℕ) (face : List ℕ) → Lawful face → (times n step face ≡ face) ↔ (n % round ≡ 0)
