use Rattle.std.proofs.Common.{◌≡◌, ℕ, ◌-◌, ◌%◌, ◌<◌, ◌≤◌, true, false, sym, refl, ap, ◌∙◌, subst, mod-lt, arith}
use Rattle.std.proofs.lemmas.Bool.{false≢true}
use Rattle.clock.specs.Times.{times}
use Rattle.mm58274c.specs.declared.timer.Timer.{Timer}
use Rattle.mm58274c.specs.declared.timer.Timer.TheVariants.{Halted, Once, Again}
use Rattle.mm58274c.specs.declared.timer.Event.{Event}
use Rattle.mm58274c.specs.declared.timer.Event.TheVariants.{Steps}
use Rattle.mm58274c.specs.Timer.{Timed, after, tick_and_ring}
use Rattle.mm58274c.proofs.Ticks.{halted_stays, once_counts, once_ends, again_counts, again_goes_on}
use Rattle.mm58274c.proofs.timer.Timer.on.Goals as goal

steps : (register n : ℕ) (t s : Timer) (e : Event) → s ≡ t → e ≡ Steps n → after register s e ≡ times n (tick_and_ring register) (t, false)
steps register n t s e p q = λ i. after register (p i) (q i)

pub returns-in-Halted-Steps : goal.returns-in-Halted-Steps
returns-in-Halted-Steps c =
    let w = c.in-Halted-Steps in
    record {
      after = sym (steps c.args.register w.field-0-1 Halted c.args.self c.args.event w.is-0 w.is-1 ∙ halted_stays c.args.register w.field-0-1 false);
      timed = (λ e. absurd (false≢true e), omega arith);
    }

pub returns-in-Once-Steps : goal.returns-in-Once-Steps
returns-in-Once-Steps c =
    let w = c.in-Once-Steps in
    let k : Timed c.args.register (Once w.left) = subst (Timed c.args.register) w.is-0 c.requires in
    record {
      after = sym (steps c.args.register w.n (Once w.left) c.args.self c.args.event w.is-0 w.is-1 ∙ once_counts c.args.register w.n w.left c.if-n-left.true);
      timed = (λ _. omega arith, omega arith);
    }

pub returns-in-Once-Steps-2 : goal.returns-in-Once-Steps-2
returns-in-Once-Steps-2 c =
    let w = c.in-Once-Steps in
    let k : Timed c.args.register (Once w.left) = subst (Timed c.args.register) w.is-0 c.requires in
    record {
      after = sym (steps c.args.register w.n (Once w.left) c.args.self c.args.event w.is-0 w.is-1 ∙ once_ends c.args.register w.n w.left (k.0 refl) c.if-n-left.false);
      timed = (λ e. absurd (false≢true e), omega arith);
    }

pub returns-in-Again-Steps : goal.returns-in-Again-Steps
returns-in-Again-Steps c =
    let w = c.in-Again-Steps in
    let k : Timed c.args.register (Again w.left) = subst (Timed c.args.register) w.is-0 c.requires in
    record {
      after = sym (steps c.args.register w.n (Again w.left) c.args.self c.args.event w.is-0 w.is-1 ∙ again_counts c.args.register w.n w.left c.if-n-left-2.true);
      timed = (λ _. omega arith, omega arith);
    }

pub returns-in-Again-Steps-2 : goal.returns-in-Again-Steps-2
returns-in-Again-Steps-2 c =
    let w = c.in-Again-Steps in
    let k : Timed c.args.register (Again w.left) = subst (Timed c.args.register) w.is-0 c.requires in
    let some : 1 ≤ w.left = k.0 refl in
    let d = c.delay_of-delay.ensures.0 in
    let l : (w.n - w.left) % c.delay_of-delay.result < c.delay_of-delay.result = mod-lt (w.n - w.left) (omega arith) in
    record {
      after =
          ap (λ x. (Again (x - (w.n - w.left) % x), true)) d
          ∙ sym (steps c.args.register w.n (Again w.left) c.args.self c.args.event w.is-0 w.is-1 ∙ again_goes_on c.args.register w.n w.left some c.if-n-left-2.false (omega arith));
      timed = (λ _. omega arith, omega arith);
    }
