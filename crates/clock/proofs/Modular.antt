-- Arithmetic of remainders that is not linear, over any round.
use Rattle.std.proofs.Common.{◌≡◌, ℕ, suc, ◌+◌, ◌-◌, ◌*◌, ◌/◌, ◌%◌, ◌<◌, ◌≤◌, sym, ap, ◌∙◌, mod-eq_of_lt, suc-mul, mul_comm, div-lt_iff_lt-mul, le-mul_of_pos_right, arith}
use native.Mathlib.Nat.{mod-add-mod, add-mod-mod, add-mod_right, add-mul-div_left, add-mul-mod_self_left, div-eq_of_lt, div-add-mod}
use lib.Arith.{mod-mul, digits_lt}

-- what stands p places on is told apart by its remainder
pub unshift : (m p a : ℕ) → p < m → ((p + a) % m + (m - p)) % m ≡ a % m
unshift m p a h =
    mod-add-mod (p + a) m (m - p) ∙ ap (λ x. x % m) (let e : p + a + (m - p) ≡ a + m = omega arith in e) ∙ add-mod_right a m

pub shift_same : (m p a b : ℕ) → p < m → (p + a) % m ≡ (p + b) % m → a % m ≡ b % m
shift_same m p a b h e = sym (unshift m p a h) ∙ ap (λ x. (x + (m - p)) % m) e ∙ unshift m p b h

pub same_shift : (m p a b : ℕ) → a % m ≡ b % m → (p + a) % m ≡ (p + b) % m
same_shift m p a b e = sym (add-mod-mod p a m) ∙ ap (λ x. (p + x) % m) e ∙ add-mod-mod p b m

-- two counters, of which the lower has c places and carries into the upper, of m places, counted n on
pub carried : (c m a b n : ℕ) → 0 < c → 0 < m → (a + n) % c + c * ((b + (a + n) / c) % m) ≡ (a + c * b + n) % (c * m)
carried c m a b n hc hm =
    let e : a + c * b + n ≡ (a + n) + c * b = omega arith in
    let q : (a + c * b + n) / c ≡ b + (a + n) / c = ap (λ x. x / c) e ∙ add-mul-div_left (a + n) b hc ∙ (omega arith) in
    let r : (a + c * b + n) % c ≡ (a + n) % c = ap (λ x. x % c) e ∙ add-mul-mod_self_left (a + n) c b in
    let whole : (a + c * b + n) % (m * c) ≡ ((a + c * b + n) / c % m) * c + (a + c * b + n) % c = mod-mul (a + c * b + n) hm hc in
    sym (ap (λ x. (a + c * b + n) % x) (mul_comm c m) ∙ whole ∙ ap (λ x. (x % m) * c + (a + c * b + n) % c) q ∙ ap (λ x. (b + (a + n) / c) % m * c + x) r ∙ omega (arith, mul_comm c ((b + (a + n) / c) % m)))

pub pair_below : (c m a b : ℕ) → a < c → b < m → a + c * b < c * m
pair_below c m a b ha hb =
    let h : b * c + a < m * c = digits_lt hb ha in
    omega (arith, h, mul_comm b c, mul_comm m c)

pub pair_low : (c a b a' b' : ℕ) → a < c → a' < c → a + c * b ≡ a' + c * b' → a ≡ a'
pair_low c a b a' b' h h' e =
    sym (add-mul-mod_self_left a c b ∙ mod-eq_of_lt h) ∙ ap (λ x. x % c) e ∙ (add-mul-mod_self_left a' c b' ∙ mod-eq_of_lt h')

pub pair_high : (c a b a' b' : ℕ) → a < c → a' < c → a + c * b ≡ a' + c * b' → b ≡ b'
pair_high c a b a' b' h h' e =
    let hc : 0 < c = omega arith in
    let z : a / c ≡ 0 = div-eq_of_lt h in
    let z' : a' / c ≡ 0 = div-eq_of_lt h' in
    let l = add-mul-div_left a b hc in
    let l' = add-mul-div_left a' b' hc in
    let m = ap (λ x. x / c) e in
    omega arith

-- a quotient may be taken in two parts, so that the sum is never formed
pub quotient_parts : (v n c : ℕ) → 0 < c → n / c + (v + n % c) / c ≡ (v + n) / c
quotient_parts v n c h =
    let d = div-add-mod n c in
    let e : (v + n % c) + c * (n / c) ≡ v + n = omega arith in
    sym (ap (λ x. x / c) (sym e) ∙ add-mul-div_left (v + n % c) (n / c) h ∙ (omega arith))

pub quotient_below : (v n c : ℕ) → v < c → (v + n) / c ≤ n
quotient_below v n c h =
    let m : n ≤ n * c = le-mul_of_pos_right n (let p : 0 < c = omega arith in p) in
    let e : suc n * c ≡ n * c + c = suc-mul n c in
    let l : (v + n) / c < suc n = (div-lt_iff_lt-mul (let p : 0 < c = omega arith in p)).1 (omega arith) in
    omega arith
