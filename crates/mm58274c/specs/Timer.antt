-- The timer: halted, counting once, or counting again and again. It counts the clock's steps.
use Rattle.std.specs.Prelude.{◌≡◌, ℕ, ◌-◌, ◌/◌, ◌%◌, ◌≤◌, Bool, true, false, cond, ◌||◌, [], ◌∷◌, ◌==◌, slice_index}
use Rattle.clock.specs.Times.{times}
use Rattle.mm58274c.specs.declared.timer.Timer.{Timer}
use Rattle.mm58274c.specs.declared.timer.Timer.TheVariants.{Halted, Once, Again}
use Rattle.mm58274c.specs.declared.timer.Event.{Event}
use Rattle.mm58274c.specs.declared.timer.Event.TheVariants.{Load, Halt, Start, Steps}

-- the delay in tenths that bits 2 to 0 of the interrupt register choose; 0 is none
abbrev pub delay : ℕ → ℕ
delay register = slice_index (0 ∷ 1 ∷ 5 ∷ 10 ∷ 50 ∷ 100 ∷ 300 ∷ 600 ∷ []) (register % 8)

-- bit 3 of the interrupt register
abbrev pub repeated : ℕ → Bool
repeated register = register / 8 % 2 == 1

-- a halted timer that has a delay starts, for the whole delay; a counting one goes on
abbrev pub started : ℕ → Timer → Timer
started register Halted =
    cond (delay register == 0) Halted (cond (repeated register) (Again (delay register)) (Once (delay register)))
started register (Once left) = Once left
started register (Again left) = Again left

-- one step of the clock: at its last the timer halts or begins anew
abbrev pub tick : ℕ → Timer → Timer
tick register Halted = Halted
tick register (Once left) = cond (left == 1) Halted (Once (left - 1))
tick register (Again left) = Again (cond (left == 1) (delay register) (left - 1))

abbrev pub at_last : Timer → Bool
at_last Halted = false
at_last (Once left) = left == 1
at_last (Again left) = left == 1

-- one step, beside whether a last step came before it or is it
abbrev pub tick_and_ring : ℕ → Timer × Bool → Timer × Bool
tick_and_ring register p = (tick register p.0, p.1 || at_last p.0)

-- the timer after an event, and whether a last step came
abbrev pub after : ℕ → Timer → Event → Timer × Bool
after register t Load = (Halted, false)
after register t Halt = (Halted, false)
after register t Start = (started register t, false)
after register t (Steps n) = times n (tick_and_ring register) (t, false)

abbrev pub counting : Timer → Bool
counting Halted = false
counting (Once left) = true
counting (Again left) = true

-- the steps left; none where it is halted
abbrev pub steps_left : Timer → ℕ
steps_left Halted = 0
steps_left (Once left) = left
steps_left (Again left) = left

-- a counting timer has a step left, and no more than the delay
abbrev pub Timed : ℕ → Timer → Type 0
Timed register t = (counting t ≡ true → 1 ≤ steps_left t) × (steps_left t ≤ delay register)
