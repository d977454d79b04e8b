-- The MM58274C keeps the chip rules.
use Rattle.std.specs.Prelude.{◌≡◌, ℕ, Bool, true, false, not, ◌&&◌, ◌||◌, List, ◌==◌, slice_index, refl}
use Rattle.std.proofs.Common.{sym, subst, arith}
use Rattle.std.proofs.lemmas.Bool.{cond_both}
use Rattle.clock.specs.Times.{times}
use Rattle.clock.proofs.Face274.{round_law}
use Rattle.chips.specs.declared.ask.Ask.TheVariants.{Wait}
use Rattle.chips.specs.Kind.{KindLaws, Sound}
use Rattle.chips.specs.Rules.{Waits, OneCall, Stays, Writes}
use Rattle.chips.proofs.Behaving.{Keeps, either_way}
use Rattle.mm58274c.specs.declared.chip.Mm58274c.{Mm58274c}
use Rattle.mm58274c.specs.Timer.{tick_and_ring}
use Rattle.mm58274c.specs.Registers.{Registers, steps_of, waited, watched, looked, after_read, with_digits, written}
use Rattle.mm58274c.specs.View.{registers, meaning, state}
use Rattle.mm58274c.specs.Does.{answer, behaviour, kind}
use Rattle.mm58274c.specs.Told.{time_sound}
use Rattle.mm58274c.specs.Waiting.{at_once}

pub kind_laws : KindLaws kind
kind_laws = record {
  few_columns = omega arith;
  some_round = omega arith;
  divides = record { some_pass = omega arith; some_count = omega arith };
  rounds = round_law;
}

pub sound : (x : Mm58274c) → Sound kind (state x)
sound x =
    let t = time_sound x.counters in
    record {
      wide = t.long;
      digits = t.small;
      lawful_while_running = t.lawful;
      held_below_the_period = t.below;
      none_held_while_stopped = t.none_held;
      age_within_the_limit = x.age.young;
      calls_of_32_bits = x.calls.few;
    }

-- ---- the rules, over registers

module _ (s : Registers) where
  rung_stays : (a b k : Bool) → (a || k) ≡ true → ((a || b) || k) ≡ true
  rung_stays true b k e = refl
  rung_stays false true k e = refl
  rung_stays false false k e = e

  waits : (n : ℕ) → Waits kind (meaning s) n (answer s (Wait n)) (meaning (waited s n))
  waits n =
      let p = times (steps_of s n) (tick_and_ring s.interrupt) (s.timer, false) in
      subst (λ (t : Registers). Waits kind (meaning s) n (answer s (Wait n)) (meaning t)) (sym (at_once s n (steps_of s n) p refl refl))
      (record {
        steps = refl;
        face = refl;
        held = refl;
        age = refl;
        running = refl;
        armed = refl;
        doubt = λ _. refl;
        rung_never_falls = rung_stays s.flags.rang p.1 s.flags.kept;
        calls = refl;
      })

  -- a ring that the read of an arm or a settle clears is kept
  kept : (a k : Bool) → (k || a) ≡ (a || k)
  kept true true = refl
  kept true false = refl
  kept false true = refl
  kept false false = refl

  watches : OneCall (meaning s) (meaning (watched s))
  watches = record { face = refl; held = refl; age = refl; running = refl; rung = kept s.flags.rang s.flags.kept; calls = refl }

  looks : OneCall (meaning s) (meaning (looked s))
  looks = record { face = refl; held = refl; age = refl; running = refl; rung = refl; calls = refl }

  reads : (a : ℕ) → Stays (meaning s) (meaning (after_read s a))
  reads a =
      let P : Registers → Type 0 = λ t. Stays (meaning s) (meaning t) in
      cond_both (a == 0) _ s P (λ _. record { face = refl; held = refl; age = refl; running = refl; calls = refl }) (λ _. record { face = refl; held = refl; age = refl; running = refl; calls = refl })

  writes : (a v : ℕ) → Writes (meaning s) (meaning (written s a v))
  writes a v =
      let P : Registers → Type 0 = λ t. Writes (meaning s) (meaning t) in
      let in_place : (d : List ℕ) → Writes (meaning s) (meaning (with_digits s d)) = λ d. record { age = refl; calls = refl } in
      cond_both (a == 0) _ _ P (λ _. record { age = refl; calls = refl })
      (λ _. cond_both (a == 15) _ _ P (λ _. cond_both s.select _ _ P (λ _. record { age = refl; calls = refl }) (λ _. in_place _)) (λ _. in_place _))

pub keeps : Keeps behaviour registers
keeps = record {
  waits = λ x n. waits (registers x) n;
  arms = λ x. record { one_call = watches (registers x); armed = refl; doubt = refl };
  digits = λ x i.
      let s = registers x in
      let e = either_way (s.armed && not s.flags.changed) (slice_index s.time.digits i) in
      record { one_call = looks s; armed = refl; doubt = refl; shown = λ _ _. e; of_4_bits = omega (arith, e, (time_sound x.counters).small i) };
  settles = λ x.
      let s = registers x in
      record { one_call = watches s; answers = λ _. either_way s.armed (not s.flags.changed); armed = λ _. refl; doubt = λ _. refl };
  reads = λ x. reads (registers x);
  takes = λ x. record { stays = record { face = refl; held = refl; age = refl; running = refl; calls = refl }; answers = refl; clears = refl };
  writes = λ x. writes (registers x);
}
