-- The MM58167B keeps the chip rules.
use Rattle.std.specs.Prelude.{◌≡◌, ℕ, Bool, true, false, not, ◌&&◌, ◌||◌, ◌==◌, nat_lt, slice_index, refl}
use Rattle.std.proofs.Common.{sym, ap, subst, arith}
use Rattle.std.proofs.lemmas.Bool.{cond_both, true≢false}
use Rattle.clock.specs.Registers167.{face}
use Rattle.clock.proofs.Face167.{round_law}
use Rattle.clock.proofs.Shown167.{face_lawful}
use Rattle.clock.specs.Widths.{columns_167, four_bits_167}
use Rattle.chips.specs.declared.ask.Ask.TheVariants.{Wait}
use Rattle.chips.specs.Kind.{KindLaws, Sound, one_more}
use Rattle.chips.specs.Rules.{Waits, OneCall, Stays, Writes}
use Rattle.chips.proofs.Behaving.{Keeps, either_way}
use Rattle.mm58167b.specs.declared.chip.Mm58167b.{Mm58167b}
use Rattle.mm58167b.specs.Registers.{Registers, steps_of, waited, with_status, after_read, written}
use Rattle.mm58167b.specs.View.{registers, meaning, state}
use Rattle.mm58167b.specs.Does.{answer, behaviour, kind}
use Rattle.mm58167b.specs.Waiting.{at_once}

pub kind_laws : KindLaws kind
kind_laws = record {
  few_columns = omega arith;
  some_round = omega arith;
  divides = record { some_pass = omega arith; some_count = omega arith };
  rounds = round_law;
}

pub sound : (x : Mm58167b) → Sound kind (state x)
sound x =
    let law = face_lawful x.clock.counters in
    record {
      wide = columns_167 _ law;
      digits = four_bits_167 (face x.clock.counters) law;
      lawful_while_running = λ _. law;
      held_below_the_period = omega (arith, x.clock.below);
      none_held_while_stopped = λ e. absurd (true≢false e);
      age_within_the_limit = x.age.young;
      calls_of_32_bits = x.calls.few;
    }

-- ---- the rules, over registers

module _ (s : Registers) where
  waits : (n : ℕ) → (s.armed ≡ true → s.seen ≡ true) → Waits kind (meaning s) n (answer s (Wait n)) (meaning (waited s n))
  waits n watching =
      subst (λ (t : Registers). Waits kind (meaning s) n (answer s (Wait n)) (meaning t)) (sym (at_once s n (steps_of s n) refl))
      (record {
        steps = refl;
        face = refl;
        held = refl;
        age = refl;
        running = refl;
        armed = refl;
        doubt = λ armed. ap (λ seen. s.status || (seen && nat_lt 0 (steps_of s n))) (watching armed);
        rung_never_falls = λ r. r;
        calls = refl;
      })

  one_call : (status seen armed : Bool) → OneCall (meaning s) (meaning (with_status s status seen armed (one_more s.calls)))
  one_call status seen armed = record { face = refl; held = refl; age = refl; running = refl; rung = refl; calls = refl }

  reads : (a : ℕ) → Stays (meaning s) (meaning (after_read s a))
  reads a =
      let P : Registers → Type 0 = λ t. Stays (meaning s) (meaning t) in
      let still : (status seen armed : Bool) → Stays (meaning s) (meaning (with_status s status seen armed s.calls)) = λ status seen armed. record { face = refl; held = refl; age = refl; running = refl; calls = refl } in
      cond_both (a == 20) _ _ P (λ _. still false false false) (λ _. cond_both (nat_lt a 8) _ s P (λ _. still s.status true s.armed) (λ _. still s.status s.seen s.armed))

  writes : (a v : ℕ) → Writes (meaning s) (meaning (written s a v))
  writes a v =
      let P : Registers → Type 0 = λ t. Writes (meaning s) (meaning t) in
      cond_both (nat_lt a 8) _ _ P (λ _. record { age = refl; calls = refl }) (λ _. record { age = refl; calls = refl })

pub keeps : Keeps behaviour registers
keeps = record {
  waits = λ x n. waits (registers x) n x.watched;
  arms = λ x. record { one_call = one_call (registers x) false true true; armed = refl; doubt = refl };
  digits = λ x i.
      let s = registers x in
      let e = either_way (s.armed && not s.status) (slice_index s.digits i) in
      record { one_call = one_call s s.status true s.armed; armed = refl; doubt = refl; shown = λ _ _. e; of_4_bits = omega (arith, e, (sound x).digits i) };
  settles = λ x.
      let s = registers x in
      record { one_call = one_call s false true true; answers = λ _. either_way s.armed (not s.status); armed = λ _. refl; doubt = λ _. refl };
  reads = λ x. reads (registers x);
  takes = λ x. record { stays = record { face = refl; held = refl; age = refl; running = refl; calls = refl }; answers = refl; clears = refl };
  writes = λ x. writes (registers x);
}
