-- A kind that is given by its behaviour keeps the chip rules if its functions do, and has one answer to each ask.
use Rattle.std.proofs.Common.{◌≡◌, ℕ, Bool, true, false, cond, List, Ok, Err, Result, sym, refl, ◌∙◌, subst}
use Rattle.chips.specs.declared.ask.Ask.{Ask}
use Rattle.chips.specs.declared.ask.Ask.TheVariants.{Wait, Arm, Digit, Settle, Read, Take, Write}
use Rattle.chips.specs.declared.ask.Waited.{Waited}
use Rattle.chips.specs.declared.refusal.Refusal.{Refusal}
use Rattle.chips.specs.Behaviour.{Behaviour, does_by}
use Rattle.chips.specs.Kind.{State}
use Rattle.chips.specs.Questions.{Question, Gives}
use Rattle.chips.specs.Rules.{Reply, Rule, Waits, Arms, Digits, Settles, Stays, Takes, Writes, wait_questions, digit_questions}
use Rattle.chips.proofs.Asking.{asked_once}

-- an answer that is the same on either branch
pub either_way : {A : Type 0} (b : Bool) (a : A) → cond b a a ≡ a
either_way true a = refl
either_way false a = refl

module _ {C R : Type 0} (b : Behaviour R) (holds : C → R) where
  abbrev pub state : C → State
  state x = b.meaning (holds x)

  abbrev later : C → Ask → State
  later x a = b.meaning (b.after (holds x) a)

  -- the chip rules of the functions
  pub record Keeps : Type 0 where
    pub waits : (x : C) (n : ℕ) → Waits b.kind (state x) n (b.answer (holds x) (Wait n)) (later x (Wait n))
    pub arms : (x : C) → Arms (state x) (later x Arm)
    pub digits : (x : C) (i : ℕ) → Digits (state x) i (b.answer (holds x) (Digit i)) (later x (Digit i))
    pub settles : (x : C) → Settles (state x) (b.answer (holds x) Settle) (later x Settle)
    pub reads : (x : C) (a : ℕ) → Stays (state x) (later x (Read a))
    pub takes : (x : C) → Takes (state x) (b.answer (holds x) Take) (later x Take)
    pub writes : (x : C) (a v : ℕ) → Writes (state x) (later x (Write a v))

  pub rules : Keeps → (x y : C) (a : Ask) (r : Reply a) → does_by b holds x a r y → Rule b.kind state x a r y
  rules k x y (Wait n) (Ok v) h =
      (h.0, subst (λ (t : R). Waits b.kind (state x) n v (b.meaning t)) (sym h.1.1) (subst (λ (w : Waited). Waits b.kind (state x) n w (later x (Wait n))) (sym h.1.0) (k.waits x n)))
  rules k x y (Wait n) (Err e) h = h
  rules k x y Arm r h = subst (λ (t : R). Arms (state x) (b.meaning t)) (sym h) (k.arms x)
  rules k x y (Digit i) (Ok v) h =
      (h.0, subst (λ (t : R). Digits (state x) i v (b.meaning t)) (sym h.1.1) (subst (λ (w : ℕ). Digits (state x) i w (later x (Digit i))) (sym h.1.0) (k.digits x i)))
  rules k x y (Digit i) (Err e) h = h
  rules k x y Settle r h = subst (λ (t : R). Settles (state x) r (b.meaning t)) (sym h.1) (rw h.0 (k.settles x))
  rules k x y (Read a) (Ok v) h = subst (λ (t : R). Stays (state x) (b.meaning t)) (sym h.1.1) (k.reads x a)
  rules k x y (Read a) (Err e) h = h.1
  rules k x y Take r h = subst (λ (t : R). Takes (state x) r (b.meaning t)) (sym h.1) (rw h.0 (k.takes x))
  rules k x y (Write a v) (Ok u) h = subst (λ (t : R). Writes (state x) (b.meaning t)) (sym h.1.1) (k.writes x a v)
  rules k x y (Write a v) (Err e) h = h.1

  -- what a chip holds tells the chip
  module _ (tell : (x y : C) → holds x ≡ holds y → x ≡ y) where
    same : (t : R) (y z : C) → holds y ≡ t → holds z ≡ t → y ≡ z
    same t y z h k = tell y z (h ∙ sym k)

    both : {A : Type 0} (a : A) (t : R) (v w : A) (y z : C) → (v ≡ a) × (holds y ≡ t) → (w ≡ a) × (holds z ≡ t) → (v ≡ w) × (y ≡ z)
    both a t v w y z h k = (h.0 ∙ sym k.0, same t y z h.1 k.1)

    once : {A : Type 0} (qs : List Question) (a : A) (t : R) (x y z : C) (r q : Result A Refusal) → Gives holds qs a t x r y → Gives holds qs a t x q z → (r ≡ q) × (y ≡ z)
    once qs a t = asked_once qs (λ v w. (v ≡ a) × (holds w ≡ t)) (both a t)

    pub determined : (x y z : C) (a : Ask) (r q : Reply a) → does_by b holds x a r y → does_by b holds x a q z → (r ≡ q) × (y ≡ z)
    determined x y z (Wait n) r q h k = once (wait_questions (state x) n) (b.answer (holds x) (Wait n)) (b.after (holds x) (Wait n)) x y z r q h k
    determined x y z Arm r q h k = (refl, same (b.after (holds x) Arm) y z h k)
    determined x y z (Digit i) r q h k = once (digit_questions b.kind i) (b.answer (holds x) (Digit i)) (b.after (holds x) (Digit i)) x y z r q h k
    determined x y z Settle r q h k = both (b.answer (holds x) Settle) (b.after (holds x) Settle) r q y z h k
    determined x y z (Read a) r q h k = once (b.read_questions a) (b.answer (holds x) (Read a)) (b.after (holds x) (Read a)) x y z r q h k
    determined x y z Take r q h k = both (b.answer (holds x) Take) (b.after (holds x) Take) r q y z h k
    determined x y z (Write a v) r q h k = once (b.write_questions (holds x) a v) (b.answer (holds x) (Write a v)) (b.after (holds x) (Write a v)) x y z r q h k
