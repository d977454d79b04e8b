-- The law of a chip's step, from counters that roll over and a face that shows them.
use Rattle.std.proofs.Common.{◌≡◌, ℕ, zero, suc, ◌+◌, true, List, sym, refl, ap, ◌∙◌, subst, arith}
use native.Mathlib.Nat.{zero-mod}
use Rattle.clock.specs.Times.{times}
use Rattle.clock.specs.Rounds.{RoundLaw}
use Rattle.clock.proofs.Rolling.{Rolling, run, run_ok, meet, met}
use Rattle.clock.proofs.Cascade.{through, through_run}

pub times_sum : {S : Type 0} (f : S → S) (a b : ℕ) (s : S) → times (a + b) f s ≡ times b f (times a f s)
unfolding times
times_sum f a zero s = ap (λ n. times n f s) (let e : a + zero ≡ a = omega arith in e)
times_sum f a (suc b) s = ap (λ n. times n f s) (let e : a + suc b ≡ suc (a + b) = omega arith in e) ∙ ap f (times_sum f a b s)

pub law : (w : Rolling (List ℕ)) (step : List ℕ → List ℕ) → ((f : List ℕ) → w.turn true f ≡ step f) → RoundLaw w.Ok step w.round
unfolding times
law w step is = record {
  a_step_keeps_a_face_lawful = λ f h. subst w.Ok (is f) (w.keeps f h);
  zero_steps_leave_a_face = λ f. refl;
  a_plus_b_steps_are_a_then_b = λ a b f. times_sum step a b f;
  back_exactly_at_whole_rounds = λ n f h. (
    λ e. meet w n 0 f h (same n f ∙ e) ∙ zero-mod w.round,
    λ z. sym (same n f) ∙ met w n 0 f h (z ∙ sym (zero-mod w.round)),
  );
}
  where
    same : (n : ℕ) (f : List ℕ) → run w n f ≡ times n step f
    same zero f = refl
    same (suc n) f = is (run w n f) ∙ ap step (same n f)

-- How a face shows counters that roll over.
pub record Layout (C : Type 0) : Type 1 where
  pub S : Type 0
  pub counting : Rolling S
  pub InRange : C → Type 0
  pub Lawful : List ℕ → Type 0
  pub tick : C → C
  pub shown : C → List ℕ
  pub read : List ℕ → C
  pub nest : C → S
  pub flat : S → C
  pub back : (c : C) → flat (nest c) ≡ c
  pub ticks : (c : C) → nest (tick c) ≡ counting.turn true (nest c)
  pub range_ok : (c : C) → InRange c → counting.Ok (nest c)
  pub ok_range : (c : C) → counting.Ok (nest c) → InRange c
  pub fits : (f : List ℕ) → Lawful f → InRange (read f)
  pub lawful : (c : C) → InRange c → Lawful (shown c)
  pub read_shown : (c : C) → read (shown c) ≡ c
  pub shown_read : (f : List ℕ) → Lawful f → f ≡ shown (read f)

module _ {C : Type 0} (k : Layout C) where
  abbrev pub face_step : List ℕ → List ℕ
  face_step f = k.shown (k.tick (k.read f))

  to : List ℕ → k.S
  to f = k.nest (k.read f)

  keeps : (f : List ℕ) → k.Lawful f → k.Lawful (face_step f)
  keeps f h =
      let c = k.read f in
      k.lawful (k.tick c) (k.ok_range (k.tick c) (subst k.counting.Ok (sym (k.ticks c)) (k.counting.keeps (k.nest c) (k.range_ok c (k.fits f h)))))

  commutes : (f : List ℕ) → k.Lawful f → to (face_step f) ≡ k.counting.turn true (to f)
  unfolding to
  commutes f h = ap k.nest (k.read_shown (k.tick (k.read f))) ∙ k.ticks (k.read f)

  shows : (f : List ℕ) → k.Lawful f → f ≡ k.shown (k.flat (to f))
  unfolding to
  shows f h = k.shown_read f h ∙ ap k.shown (sym (k.back (k.read f)))

  one : (f g : List ℕ) → k.Lawful f → k.Lawful g → to f ≡ to g → f ≡ g
  one f g hf hg e = shows f hf ∙ ap (λ p. k.shown (k.flat p)) e ∙ sym (shows g hg)

  ok : (f : List ℕ) → k.Lawful f → k.counting.Ok (to f)
  unfolding to
  ok f h = k.range_ok (k.read f) (k.fits f h)

  faces : Rolling (List ℕ)
  faces = through k.counting k.Lawful face_step to ok keeps commutes one

  pub layout_law : RoundLaw k.Lawful face_step k.counting.round
  unfolding faces
  layout_law = law faces face_step (λ f. refl)

  -- counters that stand n places on show the face n steps on
  pub layout_on : (n : ℕ) (c e : C) → k.InRange c → k.nest e ≡ run k.counting n (k.nest c) → k.shown e ≡ times n face_step (k.shown c)
  unfolding to faces
  layout_on n c e h p =
      let l = k.lawful c h in
      let g = times n face_step (k.shown c) in
      let a : k.nest e ≡ to g =
      p ∙ ap (λ x. run k.counting n (k.nest x)) (sym (k.read_shown c)) ∙ sym (through_run k.counting k.Lawful face_step to ok keeps commutes one n (k.shown c) l) in
      ap k.shown (sym (k.back e)) ∙ ap (λ x. k.shown (k.flat x)) a ∙ sym (shows g (run_ok faces n (k.shown c) l))
