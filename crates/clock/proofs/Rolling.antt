-- What rolls over: each turn moves its place on by one, modulo its round, and the place tells the state together with the key,
-- which is what no turn changes.
use Rattle.std.proofs.Common.{◌≡◌, ℕ, zero, suc, ◌+◌, ◌%◌, ◌<◌, Bool, true, false, sym, refl, ap, ◌∙◌, subst, add-zero, mod-eq_of_lt, arith}
use native.Mathlib.Nat.{mod-add-mod}
use Rattle.clock.specs.Times.{times}
use Rattle.clock.proofs.Modular.{shift_same, same_shift}

pub record Rolling (S : Type 0) : Type 1 where
  pub Ok : S → Type 0
  pub Key : Type 0
  -- a turn, if it moves
  pub turn : Bool → S → S
  pub pos : S → ℕ
  pub key : S → Key
  pub round : ℕ
  pub whole : 0 < round
  pub rests : (s : S) → turn false s ≡ s
  pub keeps : (s : S) → Ok s → Ok (turn true s)
  pub below : (s : S) → Ok s → pos s < round
  pub moves : (s : S) → Ok s → pos (turn true s) ≡ (pos s + 1) % round
  pub stays : (s : S) → Ok s → key (turn true s) ≡ key s
  pub same : (s t : S) → Ok s → Ok t → pos s ≡ pos t → key s ≡ key t → s ≡ t

module _ {S : Type 0} (w : Rolling S) where
  abbrev pub run : ℕ → S → S
  run n s = times n (w.turn true) s

  pub run_ok : (n : ℕ) (s : S) → w.Ok s → w.Ok (run n s)
  unfolding times
  run_ok zero s h = h
  run_ok (suc n) s h = w.keeps (run n s) (run_ok n s h)

  pub run_key : (n : ℕ) (s : S) → w.Ok s → w.key (run n s) ≡ w.key s
  unfolding times
  run_key zero s h = refl
  run_key (suc n) s h = w.stays (run n s) (run_ok n s h) ∙ run_key n s h

  pub run_pos : (n : ℕ) (s : S) → w.Ok s → w.pos (run n s) ≡ (w.pos s + n) % w.round
  unfolding times
  run_pos zero s h = sym (ap (λ x. x % w.round) (add-zero (w.pos s)) ∙ mod-eq_of_lt (w.below s h))
  run_pos (suc n) s h =
      w.moves (run n s) (run_ok n s h)
      ∙ ap (λ x. (x + 1) % w.round) (run_pos n s h)
      ∙ mod-add-mod (w.pos s + n) w.round 1
      ∙ ap (λ x. x % w.round) (let e : w.pos s + n + 1 ≡ w.pos s + suc n = omega arith in e)

  -- what stands at the place n on, and has what never changes, is what n turns give
  pub lands : (n : ℕ) (s t : S) → w.Ok s → w.Ok t → w.pos t ≡ (w.pos s + n) % w.round → w.key t ≡ w.key s → t ≡ run n s
  lands n s t hs ht p k = w.same t (run n s) ht (run_ok n s hs) (p ∙ sym (run_pos n s hs)) (k ∙ sym (run_key n s hs))

  pub meet : (a b : ℕ) (s : S) → w.Ok s → run a s ≡ run b s → a % w.round ≡ b % w.round
  meet a b s h e =
      shift_same w.round (w.pos s) a b (w.below s h) (sym (run_pos a s h) ∙ ap w.pos e ∙ run_pos b s h)

  pub met : (a b : ℕ) (s : S) → w.Ok s → a % w.round ≡ b % w.round → run a s ≡ run b s
  met a b s h e =
      lands b s (run a s) h (run_ok a s h) (run_pos a s h ∙ same_shift w.round (w.pos s) a b e) (run_key a s h)

  pub turn_ok : (b : Bool) (s : S) → w.Ok s → w.Ok (w.turn b s)
  turn_ok true s h = w.keeps s h
  turn_ok false s h = subst w.Ok (sym (w.rests s)) h

  pub turn_key : (b : Bool) (s : S) → w.Ok s → w.key (w.turn b s) ≡ w.key s
  turn_key true s h = w.stays s h
  turn_key false s h = ap w.key (w.rests s)
