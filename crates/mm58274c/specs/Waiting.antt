-- A wait's steps at once.
use Rattle.std.specs.Prelude.{◌≡◌, ℕ, zero, suc, Bool, true, false, ◌||◌, nat_lt, refl}
use Rattle.std.proofs.Common.{sym, ap, ◌∙◌, arith}
use Rattle.std.proofs.lemmas.Bool.{lt-ltb}
use Rattle.std.proofs.Math.Bool.{or-false, or_assoc}
use Rattle.clock.specs.Mm58274c.{step}
use Rattle.clock.specs.Times.{times}
use Rattle.mm58274c.specs.declared.timer.Timer.{Timer}
use Rattle.mm58274c.specs.Timer.{tick_and_ring}
use Rattle.mm58274c.specs.Registers.{Registers, stepped_on, aged, steps_of, waited}

or_some : (b : Bool) (v : ℕ) → true ≡ (b || nat_lt 0 (suc v))
or_some true v = refl
or_some false v = sym (lt-ltb 0 (suc v) (omega arith))

-- the registers s after v steps, in which the timer comes to t and to a last step or not
abbrev pub after_steps : Registers → ℕ → Timer × Bool → Registers
after_steps s v p = record {
  time = record { digits = times v step s.time.digits; running = s.time.running; held = s.time.held };
  select = s.select;
  interrupt = s.interrupt;
  timer = p.0;
  flags = record { changed = s.flags.changed || nat_lt 0 v; rang = s.flags.rang || p.1; kept = s.flags.kept };
  armed = s.armed;
  age = s.age;
  calls = s.calls;
}

many_steps : (v : ℕ) (s : Registers) → times v stepped_on s ≡ after_steps s v (times v (tick_and_ring s.interrupt) (s.timer, false))
unfolding times
many_steps zero s = λ i. record {
  time = s.time;
  select = s.select;
  interrupt = s.interrupt;
  timer = s.timer;
  flags = record { changed = sym (or-false s.flags.changed) i; rang = sym (or-false s.flags.rang) i; kept = s.flags.kept };
  armed = s.armed;
  age = s.age;
  calls = s.calls;
}
many_steps (suc v) s =
    let p = times v (tick_and_ring s.interrupt) (s.timer, false) in
    ap stepped_on (many_steps v s)
    ∙ (λ i. record {
      time = record { digits = step (times v step s.time.digits); running = s.time.running; held = s.time.held };
      select = s.select;
      interrupt = s.interrupt;
      timer = (tick_and_ring s.interrupt p).0;
      flags = record {
        changed = or_some s.flags.changed v i;
        rang = or_assoc s.flags.rang p.1 (tick_and_ring s.interrupt (p.0, false)).1 i;
        kept = s.flags.kept;
      };
      armed = s.armed;
      age = s.age;
      calls = s.calls;
    })

pub at_once : (s : Registers) (n v : ℕ) (p : Timer × Bool) → v ≡ steps_of s n → p ≡ times v (tick_and_ring s.interrupt) (s.timer, false) → waited s n ≡ aged n (after_steps s v p)
at_once s n v p e f =
    ap (λ k. aged n (times k stepped_on s)) (sym e) ∙ ap (aged n) (many_steps v s) ∙ ap (λ q. aged n (after_steps s v q)) (sym f)
