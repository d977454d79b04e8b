-- Waits one after the other lose no cycle.
use Rattle.std.proofs.Common.{◌≡◌, ℕ, ◌+◌, ◌-◌, ◌*◌, ◌/◌, ◌%◌, List, [], ◌∷◌, sum, sym, ap, ◌∙◌, add-zero, add_assoc, mul_assoc, mul_comm, arith}
use native.Mathlib.Nat.{add-mul-div_left, mod-add-div, mod-add-mod, mul-div_cancel', dvd_of_mod-eq-zero}
use Rattle.std.proofs.lemmas.List.Sums.{sum_by-cons}
use Rattle.clock.specs.Divider.{Divider, Divides, passed, counted, stepped, groups, period}
use Rattle.clock.specs.Waits.{waits, NoCycleLost}
use Rattle.clock.proofs.Passing.{passed_more, some_m, counted_mono}
use Rattle.clock.proofs.Periods.{groups_meet}

module _ (v : Divider) (ok : Divides v) where
  -- the steps of a whole period
  pub whole : ℕ
  whole = groups v * (v.m - v.d) / v.k

  whole_is : v.k * whole ≡ groups v * (v.m - v.d)
  unfolding whole
  whole_is = mul-div_cancel' v.k (dvd_of_mod-eq-zero v.k (groups_meet v ok))

  -- whole periods more
  pub counted_more : (c q : ℕ) → counted v (c + period v * q) ≡ counted v c + whole * q
  unfolding counted period
  counted_more c q =
      let e : passed v (c + v.m * groups v * q) ≡ passed v c + v.k * (whole * q) =
      rw (mul_assoc v.m (groups v) q) (passed_more v c (groups v * q) (some_m v ok) ∙ ap (λ x. passed v c + x) same) in
      rw e (add-mul-div_left (passed v c) (whole * q) ok.some_count)
    where
      same : groups v * q * (v.m - v.d) ≡ v.k * (whole * q)
      same = simp (mul_comm (groups v) q, mul_assoc, ← whole_is) (mul_comm q (v.k * whole) ∙ mul_assoc v.k whole q)

  -- held cycles count the same modulo the period
  held_modulo : (h n : ℕ) → stepped v (h % period v) n ≡ stepped v h n
  unfolding stepped
  held_modulo h n =
      let r = h % period v in
      let q = h / period v in
      let x : counted v (h % period v + period v * (h / period v)) ≡ counted v h = ap (counted v) (mod-add-div h (period v)) in
      let y : counted v (h % period v + n + period v * (h / period v)) ≡ counted v (h + n) = ap (counted v) (omega (arith, mod-add-div h (period v))) in
      omega (arith, x, y, counted_more r q, counted_more (r + n) q)

  -- a wait is its two parts
  cut : (h a b : ℕ) → stepped v h (a + b) ≡ stepped v h a + stepped v (h + a) b
  unfolding stepped
  cut h a b =
      let x : counted v (h + (a + b)) ≡ counted v (h + a + b) = ap (counted v) (omega arith) in
      omega (arith, counted_mono v ok h (h + a) (omega arith), counted_mono v ok (h + a) (h + a + b) (omega arith))

  as_two : (h a b : ℕ) → stepped v h (a + b) ≡ stepped v h a + stepped v ((h + a) % period v) b
  as_two h a b = cut h a b ∙ ap (λ x. stepped v h a + x) (sym (held_modulo (h + a) b))

  no_wait : (h : ℕ) → 0 ≡ stepped v h 0
  unfolding stepped
  no_wait h = rw add-zero (omega arith)

  as_one : (h : ℕ) (ns : List ℕ) → waits v (period v) h ns ≡ (stepped v h (sum ns), (h + sum ns) % period v)
  unfolding waits
  as_one h [] = let x = no_wait h in let y = add-zero h in cc
  as_one h (n ∷ ns) =
      let rest = as_one ((h + n) % period v) ns in
      let e = sum_by-cons (λ x. x) n ns in
      let x = as_two h n (sum ns) in
      let y = mod-add-mod (h + n) (period v) (sum ns) in
      let z = add_assoc h n (sum ns) in
      cc

  pub no_cycle_lost : NoCycleLost v (period v)
  no_cycle_lost = record { one_wait_as_two = as_two; held_modulo_the_period = held_modulo; many_waits_as_one = as_one }
