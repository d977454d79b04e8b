-- The hours of the MM58274C roll over after 24, in either mode.
use Rattle.std.proofs.Common.{◌≡◌, ℕ, ◌+◌, ◌-◌, ◌%◌, ◌<◌, ◌≤◌, Bool, true, false, cond, not, ◌&&◌, eqb, sym, refl, ap, ◌∙◌, subst, zero-le, arith, lit≤}
use Rattle.std.proofs.lemmas.Bool.{eqb-true, eqb-false, eq-eqb, ne_eqb}
use Rattle.clock.specs.Mm58274c.{HoursInRange, hours_after, pm_after, last_hour}
use Rattle.clock.specs.Parts.{hour_of}
use Rattle.clock.proofs.Rolling.{Rolling}
use Rattle.clock.proofs.Cascade.{moves_after, within_after, counter_ends}

-- hours, PM, 24-hour mode
abbrev pub Hours : Type 0
Hours = ℕ × Bool × Bool

abbrev pub OkHours : Hours → Type 0
OkHours p = HoursInRange p.2 p.0 p.1

abbrev pub turn_hours : Bool → Hours → Hours
turn_hours b p = (hours_after p.2 b p.0, pm_after p.2 b p.0 p.1, p.2)

pub rests : (h : ℕ) (pm mode : Bool) → turn_hours false (h, pm, mode) ≡ (h, pm, mode)
rests h pm true = refl
rests h pm false = refl

pub keeps : (h : ℕ) (pm mode : Bool) → HoursInRange mode h pm → OkHours (turn_hours true (h, pm, mode))
keeps h pm true k = let w = within_after 0 23 h zero-le (zero-le, k.1) (eqb h 23) refl in (w.0, w.1, k.2)
keeps h pm false k = let w = within_after 1 12 h (lit≤ tt) (k.0, k.1) (eqb h 12) refl in (w.0, w.1, refl)

pub below : (h : ℕ) (pm mode : Bool) → HoursInRange mode h pm → hour_of mode h pm < 24
below h pm true k = omega arith
below h true false k = omega arith
below h false false k = omega arith

-- 12-hour mode: the tests at 11 and at 12
moves12 : (h : ℕ) (pm : Bool) → 1 ≤ h → h ≤ 12 → (b : Bool) → eqb h 11 ≡ b → (d : Bool) → eqb h 12 ≡ d → cond d 1 (h + 1) % 12 + cond (cond b (not pm) pm) 12 0 ≡ (h % 12 + cond pm 12 0 + 1) % 24
moves12 h true lo hi true e true f = let x = eqb-true h 11 e in let y = eqb-true h 12 f in absurd (omega arith)
moves12 h false lo hi true e true f = let x = eqb-true h 11 e in let y = eqb-true h 12 f in absurd (omega arith)
moves12 h true lo hi true e false f = let x = eqb-true h 11 e in omega arith
moves12 h false lo hi true e false f = let x = eqb-true h 11 e in omega arith
moves12 h true lo hi false e true f = let y = eqb-true h 12 f in omega arith
moves12 h false lo hi false e true f = let y = eqb-true h 12 f in omega arith
moves12 h true lo hi false e false f = let x = eqb-false h 11 e in let y = eqb-false h 12 f in let l : h < 11 = omega (arith, x, y) in omega arith
moves12 h false lo hi false e false f = let x = eqb-false h 11 e in let y = eqb-false h 12 f in let l : h < 11 = omega (arith, x, y) in omega arith

pub moves : (h : ℕ) (pm mode : Bool) → HoursInRange mode h pm → hour_of mode (hours_after mode true h) (pm_after mode true h pm) ≡ (hour_of mode h pm + 1) % 24
moves h pm true k = omega (arith, moves_after 0 23 h zero-le (zero-le, k.1) (eqb h 23) refl)
moves h pm false k = moves12 h pm k.0 k.1 (eqb h 11) refl (eqb h 12) refl

pub hours_end : (p : Hours) → OkHours p → last_hour p.2 p.0 p.1 ≡ eqb (hour_of p.2 p.0 p.1 + 1) 24
hours_end p k = go p.0 p.1 p.2 k
  where
    eleven : (h : ℕ) → h ≤ 12 → (b : Bool) → eqb h 11 ≡ b → (b && true) ≡ eqb (h % 12 + 12 + 1) 24
    eleven h l true e = let x = eqb-true h 11 e in sym (eq-eqb (h % 12 + 12 + 1) 24 (omega arith))
    eleven h l false e = let x = eqb-false h 11 e in sym (ne_eqb (h % 12 + 12 + 1) 24 (λ f. x (omega arith)))

    morning : (h : ℕ) → (b : Bool) → (b && false) ≡ eqb (h % 12 + 0 + 1) 24
    morning h true = sym (ne_eqb (h % 12 + 0 + 1) 24 (λ f. omega arith))
    morning h false = sym (ne_eqb (h % 12 + 0 + 1) 24 (λ f. omega arith))

    go : (h : ℕ) (pm mode : Bool) → HoursInRange mode h pm → last_hour mode h pm ≡ eqb (hour_of mode h pm + 1) 24
    go h pm true k = counter_ends 0 23 h (zero-le, k.1) ∙ ap (λ x. eqb (x + 1) 24) (let e : h - 0 ≡ h = omega arith in e)
    go h true false k = eleven h k.1 (eqb h 11) refl
    go h false false k = morning h (eqb h 11)

same12 : (h g : ℕ) (pm qm : Bool) → 1 ≤ h → h ≤ 12 → 1 ≤ g → g ≤ 12 → hour_of false h pm ≡ hour_of false g qm → (h ≡ g) × (pm ≡ qm)
same12 h g true true a b c d e = (omega arith, refl)
same12 h g false false a b c d e = (omega arith, refl)
same12 h g true false a b c d e = absurd (omega arith)
same12 h g false true a b c d e = absurd (omega arith)

same : (h g : ℕ) (pm qm mode : Bool) → HoursInRange mode h pm → HoursInRange mode g qm → hour_of mode h pm ≡ hour_of mode g qm → (h ≡ g) × (pm ≡ qm)
same h g pm qm true k l e = (e, k.2 ∙ sym l.2)
same h g pm qm false k l e = same12 h g pm qm k.0 k.1 l.0 l.1 e

pub same_hours : (p q : Hours) → OkHours p → OkHours q → hour_of p.2 p.0 p.1 ≡ hour_of q.2 q.0 q.1 → p.2 ≡ q.2 → p ≡ q
same_hours p q hp hq e k =
    let l : HoursInRange p.2 q.0 q.1 = subst (λ m. HoursInRange m q.0 q.1) (sym k) hq in
    let f : hour_of p.2 p.0 p.1 ≡ hour_of p.2 q.0 q.1 = e ∙ ap (λ m. hour_of m q.0 q.1) (sym k) in
    let s = same p.0 q.0 p.1 q.1 p.2 hp l f in
    λ i. (s.0 i, s.1 i, k i)

abbrev pub hours : Rolling Hours
hours = record {
  Ok = OkHours;
  Key = Bool;
  turn = turn_hours;
  pos = λ p. hour_of p.2 p.0 p.1;
  key = λ p. p.2;
  round = 24;
  whole = lit≤ tt;
  rests = λ p. rests p.0 p.1 p.2;
  keeps = λ p k. keeps p.0 p.1 p.2 k;
  below = λ p k. below p.0 p.1 p.2 k;
  moves = λ p k. moves p.0 p.1 p.2 k;
  stays = λ p k. refl;
  same = same_hours;
}
