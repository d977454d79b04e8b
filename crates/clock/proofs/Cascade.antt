-- How counters are put together: one counter, one that carries into another, two that move together, and one seen through another state.
use Rattle.std.proofs.Common.{◌≡◌, ℕ, zero, suc, ◌+◌, ◌-◌, ◌*◌, ◌/◌, ◌%◌, ◌<◌, ◌≤◌, Bool, true, false, cond, ◌&&◌, eqb, ◌⊎◌, sym, refl, ap, ◌∙◌, inl, inr, zero-le, add-zero, mod-eq_of_lt, mul-pos, arith}
use native.Mathlib.Nat.{mod_self, div_self, div-eq_of_lt}
use Rattle.std.proofs.lemmas.Bool.{eqb-true, eqb-false, eq-eqb, ne_eqb, cases_eq}
use Rattle.clock.specs.Times.{times}
use Rattle.clock.specs.Counter.{after}
use Rattle.clock.proofs.Modular.{carried, pair_below, pair_low, pair_high}
use Rattle.clock.proofs.Rolling.{Rolling, run, run_ok, run_key, run_pos, lands, turn_ok, turn_key}

-- ---- a counter from first to last

abbrev Within : ℕ → ℕ → ℕ → Type 0
Within first last n = (first ≤ n) × (n ≤ last)

abbrev after_true : ℕ → ℕ → Bool → ℕ → ℕ
after_true first last b n = cond b first (n + 1)

pub within_after : (first last n : ℕ) → first ≤ last → Within first last n → (b : Bool) → b ≡ eqb n last → Within first last (after_true first last b n)
within_after first last n h k true e = (omega arith, h)
within_after first last n h k false e = let ne = eqb-false n last (sym e) in (omega arith, omega (arith, ne))

pub moves_after : (first last n : ℕ) → first ≤ last → Within first last n → (b : Bool) → b ≡ eqb n last → after_true first last b n - first ≡ (n - first + 1) % (last + 1 - first)
moves_after first last n h k true e =
    let q = eqb-true n last (sym e) in
    let r : n - first + 1 ≡ last + 1 - first = omega arith in
    let z : first - first ≡ 0 = omega arith in
    z ∙ sym (ap (λ x. x % (last + 1 - first)) r ∙ mod_self (last + 1 - first))
moves_after first last n h k false e =
    let ne = eqb-false n last (sym e) in
    let l : n - first + 1 < last + 1 - first = omega (arith, ne) in
    let z : n + 1 - first ≡ n - first + 1 = omega arith in
    z ∙ sym (mod-eq_of_lt l)

pub counter_ends : (first last : ℕ) (n : ℕ) → Within first last n → eqb n last ≡ eqb (n - first + 1) (last + 1 - first)
counter_ends first last n k = go (cases_eq n last)
  where
    go : (n ≡ last) ⊎ (n ≡ last → ⊥) → eqb n last ≡ eqb (n - first + 1) (last + 1 - first)
    go (inl e) = eq-eqb n last e ∙ sym (eq-eqb (n - first + 1) (last + 1 - first) (omega arith))
    go (inr ne) = ne_eqb n last ne ∙ sym (ne_eqb (n - first + 1) (last + 1 - first) (λ e. ne (omega arith)))

abbrev pub counter : (first last : ℕ) → first ≤ last → Rolling ℕ
counter first last h = record {
  Ok = Within first last;
  Key = Unit {0};
  turn = after first last;
  pos = λ n. n - first;
  key = λ _. tt;
  round = last + 1 - first;
  whole = omega arith;
  rests = λ s. refl;
  keeps = λ s k. within_after first last s h k (eqb s last) refl;
  below = λ s k. omega arith;
  moves = λ s k. moves_after first last s h k (eqb s last) refl;
  stays = λ s k. refl;
  same = λ s t k l e _. omega arith;
}

-- ---- a lower counter that carries into what stands above it

module _ {S R : Type 0} (w : Rolling S) (last : S → Bool) (ends : (s : S) → w.Ok s → last s ≡ eqb (w.pos s + 1) w.round) (v : Rolling R) where
  pub above : (s : S) (r : R) → w.Ok s → v.Ok r → (b : Bool) → b ≡ eqb (w.pos s + 1) w.round → v.pos (v.turn b r) ≡ (v.pos r + (w.pos s + 1) / w.round) % v.round
  above s r hs hr true e =
      let q = eqb-true (w.pos s + 1) w.round (sym e) in
      v.moves r hr ∙ ap (λ x. (v.pos r + x) % v.round) (sym (ap (λ x. x / w.round) q ∙ div_self w.whole))
  above s r hs hr false e =
      let ne = eqb-false (w.pos s + 1) w.round (sym e) in
      let lt = w.below s hs in
      let l : w.pos s + 1 < w.round = omega (arith, ne, lt) in
      ap v.pos (v.rests r) ∙ sym (ap (λ x. (v.pos r + x) % v.round) (div-eq_of_lt l) ∙ ap (λ x. x % v.round) (add-zero (v.pos r)) ∙ mod-eq_of_lt (v.below r hr))

  abbrev pub cascade : Rolling (S × R)
  cascade = record {
    Ok = λ p. w.Ok p.0 × v.Ok p.1;
    Key = w.Key × v.Key;
    turn = λ b p. (w.turn b p.0, v.turn (b && last p.0) p.1);
    pos = λ p. w.pos p.0 + w.round * v.pos p.1;
    key = λ p. (w.key p.0, v.key p.1);
    round = w.round * v.round;
    whole = mul-pos w.whole v.whole;
    rests = λ p i. (w.rests p.0 i, v.rests p.1 i);
    keeps = λ p h. (w.keeps p.0 h.0, turn_ok v (last p.0) p.1 h.1);
    below = λ p h. pair_below w.round v.round (w.pos p.0) (v.pos p.1) (w.below p.0 h.0) (v.below p.1 h.1);
    moves = λ p h.
        ap (λ x. x + w.round * v.pos (v.turn (last p.0) p.1)) (w.moves p.0 h.0)
        ∙ ap (λ x. (w.pos p.0 + 1) % w.round + w.round * x) (above p.0 p.1 h.0 h.1 (last p.0) (ends p.0 h.0))
        ∙ carried w.round v.round (w.pos p.0) (v.pos p.1) 1 w.whole v.whole;
    stays = λ p h i. (w.stays p.0 h.0 i, turn_key v (last p.0) p.1 h.1 i);
    same = λ p q hp hq e k i. (
      w.same p.0 q.0 hp.0 hq.0 (pair_low w.round (w.pos p.0) (v.pos p.1) (w.pos q.0) (v.pos q.1) (w.below p.0 hp.0) (w.below q.0 hq.0) e) (ap (λ x. x.0) k) i,
      v.same p.1 q.1 hp.1 hq.1 (pair_high w.round (w.pos p.0) (v.pos p.1) (w.pos q.0) (v.pos q.1) (w.below p.0 hp.0) (w.below q.0 hq.0) e) (ap (λ x. x.1) k) i,
    );
  }

  -- n turns at once: the lower counter's carries are what its place and n come to, divided by its round
  pub cascade_run : (n : ℕ) (s : S) (r : R) → w.Ok s → v.Ok r → run cascade n (s, r) ≡ (run w n s, run v ((w.pos s + n) / w.round) r)
  cascade_run n s r hs hr =
      let k = (w.pos s + n) / w.round in
      sym (lands cascade n (s, r) (run w n s, run v k r) (hs, hr) (run_ok w n s hs, run_ok v k r hr)
      (ap (λ x. x + w.round * v.pos (run v k r)) (run_pos w n s hs)
      ∙ ap (λ x. (w.pos s + n) % w.round + w.round * x) (run_pos v k r hr)
      ∙ carried w.round v.round (w.pos s) (v.pos r) n w.whole v.whole)
      (λ i. (run_key w n s hs i, run_key v k r hr i)))

-- ---- two counters that move together: their places make one place of the pair

pub record Joined (p q : ℕ) (place : ℕ → ℕ → ℕ) : Type 0 where
  pub within : (a b : ℕ) → a < p → b < q → place a b < p * q
  pub onward : (a b : ℕ) → a < p → b < q → place ((a + 1) % p) ((b + 1) % q) ≡ (place a b + 1) % (p * q)
  pub first : (a b c d : ℕ) → a < p → b < q → c < p → d < q → place a b ≡ place c d → a ≡ c
  pub second : (a b c d : ℕ) → a < p → b < q → c < p → d < q → place a b ≡ place c d → b ≡ d

module _ {S R : Type 0} (w : Rolling S) (v : Rolling R) (place : ℕ → ℕ → ℕ) (j : Joined w.round v.round place) where
  abbrev pub together : Rolling (S × R)
  together = record {
    Ok = λ p. w.Ok p.0 × v.Ok p.1;
    Key = w.Key × v.Key;
    turn = λ b p. (w.turn b p.0, v.turn b p.1);
    pos = λ p. place (w.pos p.0) (v.pos p.1);
    key = λ p. (w.key p.0, v.key p.1);
    round = w.round * v.round;
    whole = mul-pos w.whole v.whole;
    rests = λ p i. (w.rests p.0 i, v.rests p.1 i);
    keeps = λ p h. (w.keeps p.0 h.0, v.keeps p.1 h.1);
    below = λ p h. j.within (w.pos p.0) (v.pos p.1) (w.below p.0 h.0) (v.below p.1 h.1);
    moves = λ p h.
        ap (λ x. place x (v.pos (v.turn true p.1))) (w.moves p.0 h.0)
        ∙ ap (place ((w.pos p.0 + 1) % w.round)) (v.moves p.1 h.1)
        ∙ j.onward (w.pos p.0) (v.pos p.1) (w.below p.0 h.0) (v.below p.1 h.1);
    stays = λ p h i. (w.stays p.0 h.0 i, v.stays p.1 h.1 i);
    same = λ p q hp hq e k i. (
      w.same p.0 q.0 hp.0 hq.0 (j.first _ _ _ _ (w.below p.0 hp.0) (v.below p.1 hp.1) (w.below q.0 hq.0) (v.below q.1 hq.1) e) (ap (λ x. x.0) k) i,
      v.same p.1 q.1 hp.1 hq.1 (j.second _ _ _ _ (w.below p.0 hp.0) (v.below p.1 hp.1) (w.below q.0 hq.0) (v.below q.1 hq.1) e) (ap (λ x. x.1) k) i,
    );
  }

  pub together_run : (n : ℕ) (s : S) (r : R) → run together n (s, r) ≡ (run w n s, run v n r)
  unfolding times
  together_run zero s r = refl
  together_run (suc n) s r = ap (together.turn true) (together_run n s r)

-- ---- the same, seen through another state

module _ {S C : Type 0} (w : Rolling S) (Ok : C → Type 0) (turn : C → C) (to : C → S)
    (ok : (c : C) → Ok c → w.Ok (to c))
    (keeps : (c : C) → Ok c → Ok (turn c))
    (commutes : (c : C) → Ok c → to (turn c) ≡ w.turn true (to c))
    (one : (c d : C) → Ok c → Ok d → to c ≡ to d → c ≡ d) where
  abbrev move : Bool → C → C
  move true c = turn c
  move false c = c

  abbrev pub through : Rolling C
  through = record {
    Ok = Ok;
    Key = w.Key;
    turn = move;
    pos = λ c. w.pos (to c);
    key = λ c. w.key (to c);
    round = w.round;
    whole = w.whole;
    rests = λ c. refl;
    keeps = keeps;
    below = λ c h. w.below (to c) (ok c h);
    moves = λ c h. ap w.pos (commutes c h) ∙ w.moves (to c) (ok c h);
    stays = λ c h. ap w.key (commutes c h) ∙ w.stays (to c) (ok c h);
    same = λ c d hc hd e k. one c d hc hd (w.same (to c) (to d) (ok c hc) (ok d hd) e k);
  }

  pub through_run : (n : ℕ) (c : C) → Ok c → to (times n turn c) ≡ run w n (to c)
  unfolding times
  through_run zero c h = refl
  through_run (suc n) c h =
      commutes (times n turn c) (run_ok through n c h) ∙ ap (w.turn true) (through_run n c h)

-- a counter from 0 to last below what it carries into
abbrev pub counter_into : {R : Type 0} → (last : ℕ) → Rolling R → Rolling (ℕ × R)
counter_into last v = cascade (counter 0 last zero-le) (λ n. eqb n last) (counter_ends 0 last) v

counter_into_low : (last n s : ℕ) → s ≤ last → run (counter 0 last zero-le) n s ≡ (s + n) % (last + 1)
counter_into_low last n s h =
    let a : (k : ℕ) → k - 0 ≡ k = λ k. omega arith in
    sym (a (run (counter 0 last zero-le) n s)) ∙ run_pos (counter 0 last zero-le) n s (zero-le, h) ∙ ap (λ x. (x + n) % (last + 1 - 0)) (a s) ∙ ap (λ x. (s + n) % x) (a (last + 1))

counter_into_carry : (last n s : ℕ) → (s + n) / (last + 1) ≡ (s - 0 + n) / (last + 1 - 0)
counter_into_carry last n s =
    let a : (k : ℕ) → k - 0 ≡ k = λ k. omega arith in
    sym (ap (λ x. (x + n) / (last + 1 - 0)) (a s) ∙ ap (λ x. (s + n) / x) (a (last + 1)))

-- n counts at once: the counter is at the remainder, and what it carries into is as many on as the quotient k
pub counter_into_on : {R : Type 0} (last : ℕ) (v : Rolling R) (n k s t : ℕ) (r q : R) → s ≤ last → v.Ok r → t ≡ (s + n) % (last + 1) → k ≡ (s + n) / (last + 1) → q ≡ run v k r → (t, q) ≡ run (counter_into last v) n (s, r)
counter_into_on last v n k s t r q hs hr low carry high =
    let l : t ≡ run (counter 0 last zero-le) n s = low ∙ sym (counter_into_low last n s hs) in
    let h : q ≡ run v ((s - 0 + n) / (last + 1 - 0)) r = high ∙ ap (λ x. run v x r) (carry ∙ counter_into_carry last n s) in
    (λ i. (l i, h i)) ∙ sym (cascade_run (counter 0 last zero-le) (λ n. eqb n last) (counter_ends 0 last) v n s r (zero-le, hs) hr)
