-- The period is the fewest whole groups whose passed cycles are a multiple of k, and no other number is.
use Rattle.std.proofs.Common.{◌≡◌, ℕ, zero, suc, ◌+◌, ◌-◌, ◌*◌, ◌/◌, ◌%◌, ◌<◌, ◌≤◌, Bool, true, false, eqb, ◌⊎◌, sym, refl, ap, ◌∙◌, subst, inl, inr, mul-le-mul_right, mod-lt, mul_assoc, mul_comm, add-mul, mul-le-mul, div-add-mod', le-div_iff_mul-le, arith, eqb-true}
use Prim.Native.Nat.{◌∣◌}
use borrow.Author.Tests.{eqb-false}
use native.Mathlib.Nat.{mul-mod_right, mul-div_right, div-mul_cancel, mul-div_cancel', div-le_of_le-mul, dvd_refl, dvd-mul_left, dvd-mul_right, dvd-mul_left_of_dvd, mul-dvd-mul_left, dvd_of_mul-dvd-mul_left, dvd-add_iff_right, dvd_of_mod-eq-zero, mod-eq-zero_of_dvd, le_of_dvd, pos_of_dvd_of_pos}
use Rattle.std.proofs.lemmas.Bool.{cases_lt}
use Rattle.clock.specs.Divider.{Divider, Divides, passed, fewest, groups, period}
use Rattle.clock.specs.Divisors.{Greatest}
use Rattle.clock.specs.Waits.{IsPeriod}
use Rattle.clock.proofs.Passing.{some_m}

-- f is the first number of groups from g on whose passed cycles are a multiple of k
record First (v : Divider) (g f : ℕ) : Type 0 where
  pub from : g ≤ f
  pub meets : f * (v.m - v.d) % v.k ≡ 0
  pub least : (j : ℕ) → g ≤ j → j * (v.m - v.d) % v.k ≡ 0 → f ≤ j

fewest_first : (v : Divider) (n g : ℕ) → g + n ≡ v.k → First v g (fewest v n g)
unfolding fewest
fewest_first v zero g e =
    let h : g ≡ v.k = omega arith in
    record { from = omega arith; meets = rw h (mul-mod_right v.k (v.m - v.d)); least = λ j l _. l }
fewest_first v (suc n) g e = go (eqb (g * (v.m - v.d) % v.k) 0) refl (fewest_first v n (suc g) (omega arith))
  where
    go : (b : Bool) → eqb (g * (v.m - v.d) % v.k) 0 ≡ b → First v (suc g) (fewest v n (suc g)) → First v g (elim b as (λ _. ℕ) [ true ↦ g | false ↦ fewest v n (suc g) ])
    go true t _ = record { from = omega arith; meets = eqb-true _ _ t; least = λ j l _. l }
    go false t rest = record {
      from = omega arith;
      meets = rest.meets;
      least = λ j l z. elim (cases_lt g j) [ inl a ↦ rest.least j a z | inr b ↦ let same : j ≡ g = omega arith in absurd (eqb-false _ _ t (rw (sym same) z)) ];
    }

module _ (v : Divider) (ok : Divides v) where
  groups_first : First v 1 (groups v)
  unfolding groups
  groups_first = let h = ok.some_count in fewest_first v (v.k - 1) 1 (omega arith)

  pub groups_meet : groups v * (v.m - v.d) % v.k ≡ 0
  groups_meet = groups_first.meets

  -- k meets, and so what is left of k by the first that meets
  groups_in_k : groups v ∣ v.k
  groups_in_k = dvd_of_mod-eq-zero (groups v) (go (cases_lt 0 (v.k % groups v)))
    where
      rest : v.k ∣ v.k % groups v * (v.m - v.d)
      rest =
          let whole : v.k ∣ v.k / groups v * (groups v * (v.m - v.d)) = dvd-mul_left_of_dvd v.k (dvd_of_mod-eq-zero v.k groups_meet) (v.k / groups v) in
          let parts : v.k * (v.m - v.d) ≡ v.k / groups v * (groups v * (v.m - v.d)) + v.k % groups v * (v.m - v.d) =
          ap (λ x. x * (v.m - v.d)) (sym (div-add-mod' v.k (groups v))) ∙ add-mul (v.k / groups v * groups v) (v.k % groups v) (v.m - v.d) ∙ ap (λ x. x + v.k % groups v * (v.m - v.d)) (mul_assoc (v.k / groups v) (groups v) (v.m - v.d)) in
          (dvd-add_iff_right v.k whole).1 (subst (λ x. v.k ∣ x) parts (dvd-mul_right v.k (v.m - v.d)))

      go : (0 < v.k % groups v) ⊎ (v.k % groups v ≤ 0) → v.k % groups v ≡ 0
      go (inl some) =
          let least = groups_first.least (v.k % groups v) some (mod-eq-zero_of_dvd v.k rest) in
          absurd (omega (arith, mod-lt v.k groups_first.from))
      go (inr none) = omega arith

  -- so they are k divided by the greatest common divisor of k and the cycles that pass of a group
  pub groups_are : (g : ℕ) → Greatest (v.m - v.d) v.k g → v.k / g ≡ groups v
  groups_are g h =
      let some = ok.some_count in
      let both = (h g).1 (dvd_refl g) in
      let g_some : 0 < g = pos_of_dvd_of_pos both.1 some in
      let t = v.k / groups v in
      let whole : groups v * (v.k / groups v) ≡ v.k = mul-div_cancel' (groups v) groups_in_k in
      let in_k : v.k / groups v ∣ v.k = subst (λ x. v.k / groups v ∣ x) whole (dvd-mul_left (v.k / groups v) (groups v)) in
      let in_e : v.k / groups v ∣ v.m - v.d = dvd_of_mul-dvd-mul_left t groups_first.from (subst (λ x. x ∣ groups v * (v.m - v.d)) (sym whole) (dvd_of_mod-eq-zero v.k groups_meet)) in
      let less : v.k / groups v * groups v ≤ g * groups v = mul-le-mul_right (groups v) (le_of_dvd g_some ((h t).0 (in_e, in_k))) in
      let below : v.k / g ≤ groups v = div-le_of_le-mul g (omega (arith, mul_comm (groups v) t)) in
      let meets : v.k ∣ v.k / g * (v.m - v.d) = subst (λ x. x ∣ v.k / g * (v.m - v.d)) (div-mul_cancel g both.1) (mul-dvd-mul_left g (v.k / g) both.0) in
      let one : 1 ≤ v.k / g = (le-div_iff_mul-le g_some).1 (omega (arith, le_of_dvd some both.1)) in
      omega (arith, groups_first.least (v.k / g) one (mod-eq-zero_of_dvd v.k meets))

  pub period_some : 0 < period v
  unfolding period
  period_some = let c : 1 * 1 ≤ v.m * groups v = mul-le-mul (some_m v ok) groups_first.from in omega arith

  -- the cycles that pass of g whole groups
  pub passed_groups : (g : ℕ) → passed v (v.m * g) ≡ g * (v.m - v.d)
  unfolding passed
  passed_groups g = rw (mul-div_right g (some_m v ok), mul-mod_right v.m g) (omega arith)

  pub is_period : IsPeriod v (period v)
  unfolding period
  is_period = record {
    groups = groups v;
    at_least_one = groups_first.from;
    whole_groups = refl;
    whole_steps = rw (passed_groups (groups v)) groups_meet;
    fewest = λ g l z. groups_first.least g l (rw (passed_groups g) at z);
  }
