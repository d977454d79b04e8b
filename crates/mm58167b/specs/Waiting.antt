-- A wait's steps at once.
use Rattle.std.specs.Prelude.{◌≡◌, ℕ, zero, suc, Bool, true, false, ◌&&◌, ◌||◌, nat_lt, refl}
use Rattle.std.proofs.Common.{sym, ap, ◌∙◌, arith}
use Rattle.std.proofs.lemmas.Bool.{lt-ltb}
use Rattle.std.proofs.Math.Bool.{or-true}
use Rattle.clock.specs.Mm58167b.{step}
use Rattle.clock.specs.Times.{times}
use Rattle.mm58167b.specs.Registers.{Registers, stepped_on, aged, steps_of, waited}

-- the status after no step, and after one more
status_none : (status seen : Bool) → status ≡ (status || (seen && nat_lt 0 0))
status_none true seen = refl
status_none false true = refl
status_none false false = refl

status_more : (status seen : Bool) (v : ℕ) → ((status || (seen && nat_lt 0 v)) || seen) ≡ (status || (seen && nat_lt 0 (suc v)))
status_more true seen v = refl
status_more false false v = refl
status_more false true v = or-true (nat_lt 0 v) ∙ sym (lt-ltb 0 (suc v) (omega arith))

-- the registers s after v steps
abbrev pub after_steps : Registers → ℕ → Registers
after_steps s v = record {
  digits = times v step s.digits;
  held = s.held;
  ram = s.ram;
  status = s.status || (s.seen && nat_lt 0 v);
  seen = s.seen;
  armed = s.armed;
  age = s.age;
  calls = s.calls;
}

many_steps : (v : ℕ) (s : Registers) → times v stepped_on s ≡ after_steps s v
unfolding times
many_steps zero s = λ i. record {
  digits = s.digits;
  held = s.held;
  ram = s.ram;
  status = status_none s.status s.seen i;
  seen = s.seen;
  armed = s.armed;
  age = s.age;
  calls = s.calls;
}
many_steps (suc v) s =
    ap stepped_on (many_steps v s)
    ∙ (λ i. record {
      digits = step (times v step s.digits);
      held = s.held;
      ram = s.ram;
      status = status_more s.status s.seen v i;
      seen = s.seen;
      armed = s.armed;
      age = s.age;
      calls = s.calls;
    })

pub at_once : (s : Registers) (n v : ℕ) → v ≡ steps_of s n → waited s n ≡ aged n (after_steps s v)
at_once s n v e = ap (λ k. aged n (times k stepped_on s)) (sym e) ∙ ap (aged n) (many_steps v s)
