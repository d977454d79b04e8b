-- Passed cycles and counted steps, from fewer cycles to more.
use Rattle.std.proofs.Common.{◌≡◌, ℕ, ◌+◌, ◌-◌, ◌*◌, ◌/◌, ◌%◌, ◌<◌, ◌≤◌, min, ap, ◌∙◌, inl, inr, mul-le-mul_right, mod-lt, div-lt_iff_lt-mul, add-mul, le-div_iff_mul-le, mul-add, div-le_self, le-mul_of_pos_right, div-mul-le_self, arith}
use native.Mathlib.Nat.{add-mul-div_left, add-mul-mod_self_left, mod-add-div', lt-div-mul-add}
use Rattle.std.proofs.lemmas.Bool.{cases_lt}
use Rattle.clock.specs.Divider.{Divider, Divides, passed, counted, stepped}

-- From q groups and r cycles to q' groups and r' cycles, where e of each group pass and d are dropped.
between : (e d q r q' r' : ℕ) → r < e + d → q * e + q * d + r ≤ q' * e + q' * d + r' → q ≤ q' → (q * e + min r e ≤ q' * e + min r' e) × (min r' e + q * d + r ≤ min r e + q' * d + r')
between e d q r q' r' u l le =
    elim (cases_lt q q') [
      | inl h ↦
          let x : (q + 1) * e ≤ q' * e = mul-le-mul_right e (omega arith) in
          let y : (q + 1) * d ≤ q' * d = mul-le-mul_right d (omega arith) in
          (omega (arith, add-mul q 1 e), omega (arith, add-mul q 1 d))
      | inr h ↦
          let same : q ≡ q' = omega arith in
          let x = ap (λ z. z * e) same in
          let y = ap (λ z. z * d) same in
          (omega arith, omega arith)
    ]

-- whole groups more
pub passed_more : (v : Divider) (c g : ℕ) → 0 < v.m → passed v (c + v.m * g) ≡ passed v c + g * (v.m - v.d)
unfolding passed
passed_more v c g p =
    rw (add-mul-div_left c g p, add-mul-mod_self_left c v.m g, add-mul (c / v.m) g (v.m - v.d)) (omega arith)

module _ (v : Divider) (ok : Divides v) where
  pub some_m : 0 < v.m
  some_m = let h = ok.some_pass in omega arith

  -- the cycles of q groups that pass, and those that are dropped
  parts : (q : ℕ) → q * v.m ≡ q * (v.m - v.d) + q * v.d
  parts q =
      let h = ok.some_pass in
      let e : v.m ≡ v.m - v.d + v.d = omega arith in
      ap (λ z. q * z) e ∙ mul-add q (v.m - v.d) v.d

  -- of more cycles no fewer pass, and each further cycle adds at most one
  passed_between : (a b : ℕ) → a ≤ b → (passed v a ≤ passed v b) × (passed v b + a ≤ passed v a + b)
  unfolding passed
  passed_between a b l =
      let h = ok.some_pass in
      let x = mod-add-div' a v.m in
      let y = mod-add-div' b v.m in
      let u : a % v.m < v.m - v.d + v.d = omega (arith, mod-lt a some_m) in
      let le : a / v.m ≤ b / v.m = (le-div_iff_mul-le some_m).1 (omega (arith, div-mul-le_self a v.m)) in
      let both = between (v.m - v.d) v.d (a / v.m) (a % v.m) (b / v.m) (b % v.m) u (omega (arith, parts (a / v.m), parts (b / v.m))) le in
      (both.0, omega (arith, parts (a / v.m), parts (b / v.m), both.1))

  pub passed_mono : (a b : ℕ) → a ≤ b → passed v a ≤ passed v b
  passed_mono a b l = (passed_between a b l).0

  pub passed_le : (c : ℕ) → passed v c ≤ c
  unfolding passed
  passed_le c = omega (arith, parts (c / v.m), mod-add-div' c v.m)

  pub counted_mono : (a b : ℕ) → a ≤ b → counted v a ≤ counted v b
  unfolding counted
  counted_mono a b l = (le-div_iff_mul-le ok.some_count).1 (omega (arith, passed_mono a b l, div-mul-le_self (passed v a) v.k))

  pub counted_le : (c : ℕ) → counted v c ≤ c
  unfolding counted
  counted_le c = omega (arith, passed_le c, div-le_self (passed v c) v.k)

  -- a wait counts at most a step for each cycle
  pub stepped_le : (h n : ℕ) → stepped v h n ≤ n
  unfolding stepped counted
  stepped_le h n =
      let p = (passed_between h (h + n) (omega arith)).1 in
      let low = lt-div-mul-add {a = passed v h} ok.some_count in
      let more = le-mul_of_pos_right n ok.some_count in
      let u : passed v (h + n) / v.k < passed v h / v.k + 1 + n = (div-lt_iff_lt-mul ok.some_count).1 (omega (arith, add-mul (passed v h / v.k + 1) n v.k, add-mul (passed v h / v.k) 1 v.k)) in
      omega arith
