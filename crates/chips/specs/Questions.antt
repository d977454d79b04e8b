-- The questions before a call, in order. The first no refuses it, and a refused call leaves the whole chip as it was.
use Rattle.std.specs.Prelude.{◌≡◌, ◌⊎◌, List, [], ◌∷◌, Ok, Err, Result}
use Rattle.chips.specs.declared.refusal.Refusal.{Refusal}

-- what has to hold, and the refusal where it does not
pub record Question : Type 1 where
  pub refusal : Refusal
  pub holds : Type 0

infix 70 ◌unless◌
abbrev pub ◌unless◌ : Refusal → Type 0 → Question
e unless p = record { refusal = e; holds = p }

-- every answer is yes
abbrev pub AllYes : List Question → Type 0
AllYes [] = Unit {0}
AllYes (q ∷ qs) = q.holds × AllYes qs

-- the first no is to the question of e
abbrev pub FirstNo : List Question → Refusal → Type 0
FirstNo [] e = ⊥
FirstNo (q ∷ qs) e = ((q.holds → ⊥) × (e ≡ q.refusal)) ⊎ (q.holds × FirstNo qs e)

-- A call of the chip x with these questions answers r and leaves the chip y: where it is not refused, as `done` says.
abbrev pub Asked : {C A : Type 0} → List Question → (A → C → Type 0) → C → Result A Refusal → C → Type 0
Asked qs done x (Ok v) y = AllYes qs × done v y
Asked qs done x (Err e) y = FirstNo qs e × (y ≡ x)

-- The same where the call is exact: it answers a, and the chip holds t then.
abbrev pub Gives : {C R A : Type 0} → (C → R) → List Question → A → R → C → Result A Refusal → C → Type 0
Gives holds qs a t x r y = Asked qs (λ v z. (v ≡ a) × (holds z ≡ t)) x r y
