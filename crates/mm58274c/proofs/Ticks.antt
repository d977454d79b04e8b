-- Many steps of the timer at once.
use Rattle.std.proofs.Common.{◌≡◌, ℕ, zero, suc, ◌+◌, ◌-◌, ◌%◌, ◌<◌, ◌≤◌, Bool, true, false, cond, eqb, ◌⊎◌, refl, ap, ◌∙◌, inl, inr, mod-lt, mod-eq_of_lt, arith}
use native.Mathlib.Nat.{mod_self, suc-mod, zero-mod}
use Rattle.std.proofs.Math.Bool.{or-false}
use Rattle.std.proofs.lemmas.Bool.{eq-eqb, ne_eqb, cases_lt}
use Rattle.clock.specs.Times.{times}
use Rattle.clock.proofs.FaceLaw.{times_sum}
use Rattle.mm58274c.specs.declared.timer.Timer.{Timer}
use Rattle.mm58274c.specs.declared.timer.Timer.TheVariants.{Halted, Once, Again}
use Rattle.mm58274c.specs.Timer.{delay, tick_and_ring}

module _ (register : ℕ) where
  pub halted_stays : (n : ℕ) (rang : Bool) → times n (tick_and_ring register) (Halted, rang) ≡ (Halted, rang)
  unfolding times
  halted_stays zero rang = refl
  halted_stays (suc n) rang = ap (tick_and_ring register) (halted_stays n rang) ∙ ap (λ b. (Halted, b)) (or-false rang)

  -- a timer that only counts down, however it goes on at its last
  counts_down : (P : ℕ → Timer) → ((l : ℕ) → 2 ≤ l → tick_and_ring register (P l, false) ≡ (P (l - 1), false)) → (n left : ℕ) → n < left → times n (tick_and_ring register) (P left, false) ≡ (P (left - n), false)
  unfolding times
  counts_down P goes zero left h = ap (λ l. (P l, false)) (let e : left ≡ left - 0 = omega arith in e)
  counts_down P goes (suc n) left h =
      ap (tick_and_ring register) (counts_down P goes n left (omega arith))
      ∙ goes (left - n) (omega arith)
      ∙ ap (λ l. (P l, false)) (let e : left - n - 1 ≡ left - suc n = omega arith in e)

  pub once_counts : (n left : ℕ) → n < left → times n (tick_and_ring register) (Once left, false) ≡ (Once (left - n), false)
  once_counts = counts_down Once (λ l h. let e = ne_eqb l 1 (λ q. omega arith) in λ i. (cond (e i) Halted (Once (l - 1)), e i))

  pub again_counts : (n left : ℕ) → n < left → times n (tick_and_ring register) (Again left, false) ≡ (Again (left - n), false)
  again_counts = counts_down Again (λ l h. let e = ne_eqb l 1 (λ q. omega arith) in λ i. (Again (cond (e i) (delay register) (l - 1)), e i))

  -- the last step and those after it
  past_the_last : (P : ℕ → Timer) (u : Timer) (n left : ℕ) → 1 ≤ left → left ≤ n → ((k : ℕ) → k < left → times k (tick_and_ring register) (P left, false) ≡ (P (left - k), false)) → tick_and_ring register (P 1, false) ≡ (u, true) → times n (tick_and_ring register) (P left, false) ≡ times (n - left) (tick_and_ring register) (u, true)
  unfolding times
  past_the_last P u n left some all down last =
      ap (λ k. times k (tick_and_ring register) (P left, false)) (let e : n ≡ suc (left - 1) + (n - left) = omega arith in e)
      ∙ times_sum (tick_and_ring register) (suc (left - 1)) (n - left) (P left, false)
      ∙ ap (times (n - left) (tick_and_ring register))
      (ap (tick_and_ring register) (down (left - 1) (omega arith) ∙ ap (λ l. (P l, false)) (let e : left - (left - 1) ≡ 1 = omega arith in e)) ∙ last)

  pub once_ends : (n left : ℕ) → 1 ≤ left → left ≤ n → times n (tick_and_ring register) (Once left, false) ≡ (Halted, true)
  once_ends n left some all = past_the_last Once Halted n left some all (λ k. once_counts k left) refl ∙ halted_stays (n - left) true

  -- from a whole delay on
  delays_on : (n : ℕ) → 1 ≤ delay register → times n (tick_and_ring register) (Again (delay register), true) ≡ (Again (delay register - n % delay register), true)
  unfolding times
  delays_on zero some = ap (λ l. (Again l, true)) (let e : delay register ≡ delay register - 0 % delay register = rw (zero-mod (delay register)) (omega arith) in e)
  delays_on (suc n) some = ap (tick_and_ring register) (delays_on n some) ∙ ap (λ l. (Again l, true)) (go (cases_lt (suc (n % delay register)) (delay register)))
    where
      go : (suc (n % delay register) < delay register) ⊎ (delay register ≤ suc (n % delay register)) → cond (eqb (delay register - n % delay register) 1) (delay register) (delay register - n % delay register - 1) ≡ delay register - suc n % delay register
      go (inl h) =
          let e = ne_eqb (delay register - n % delay register) 1 (λ q. omega arith) in
          let m : suc n % delay register ≡ suc (n % delay register) = suc-mod n (delay register) ∙ mod-eq_of_lt h in
          ap (λ b. cond b (delay register) (delay register - n % delay register - 1)) e ∙ (let q : delay register - n % delay register - 1 ≡ delay register - suc n % delay register = omega arith in q)
      go (inr h) =
          let l : n % delay register < delay register = mod-lt n some in
          let e = eq-eqb (delay register - n % delay register) 1 (omega arith) in
          let m : suc n % delay register ≡ 0 = suc-mod n (delay register) ∙ ap (λ x. x % delay register) (let q : suc (n % delay register) ≡ delay register = omega arith in q) ∙ mod_self (delay register) in
          ap (λ b. cond b (delay register) (delay register - n % delay register - 1)) e ∙ (let q : delay register ≡ delay register - suc n % delay register = omega arith in q)

  pub again_goes_on : (n left : ℕ) → 1 ≤ left → left ≤ n → 1 ≤ delay register → times n (tick_and_ring register) (Again left, false) ≡ (Again (delay register - (n - left) % delay register), true)
  again_goes_on n left some all delayed = past_the_last Again (Again (delay register)) n left some all (λ k. again_counts k left) refl ∙ delays_on (n - left) delayed
