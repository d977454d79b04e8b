-- A write by its register.
use Rattle.std.proofs.Common.{◌≡◌, ℕ, ◌-◌, true, cond, eqb, [], ◌∷◌, Result, sym, ap, ◌∙◌, subst}
use Rattle.std.proofs.lemmas.Bool.{ne_eqb}
use Rattle.chips.specs.declared.refusal.Refusal.{Refusal}
use Rattle.chips.specs.declared.refusal.Refusal.TheVariants.{Unlawful}
use Rattle.chips.specs.Questions.{◌unless◌, AllYes, Gives}
use Rattle.chips.proofs.Asking.{asked_after}
use Rattle.mm58274c.specs.declared.chip.Mm58274c.{Mm58274c}
use Rattle.mm58274c.specs.Registers.{Registers, RunsLawfully, access_questions, control_written, digit_written, interrupt_written, setting_written, with_digits, write_questions, written}
use Rattle.mm58274c.specs.View.{Lands, registers}

pub lands : (x : Mm58274c) (r : Result (Unit {0}) Refusal) (y : Mm58274c) (a v : ℕ) (t : Registers) → AllYes (access_questions a v) → written (registers x) a v ≡ t → Lands t x r y →
    Gives registers (write_questions (registers x) a v) tt (written (registers x) a v) x r y
lands x r y a v t h e l =
    asked_after (access_questions a v) (Unlawful unless (RunsLawfully (written (registers x) a v).time) ∷ []) (λ u z. (u ≡ tt) × (registers z ≡ written (registers x) a v)) x r y h
    (subst (λ (s : Registers). Lands s x r y) (sym e) l)

module _ (s : Registers) (v : ℕ) where
  pub to_interrupt : (a : ℕ) → a ≡ 15 → s.select ≡ true → written s a v ≡ interrupt_written s v
  to_interrupt a e f = ap (λ b. written s b v) e ∙ ap (λ b. cond b (interrupt_written s v) (with_digits s (setting_written s.time.digits v))) f

  pub to_digit : (a : ℕ) → (a ≡ 0 → ⊥) → (a ≡ 15 → ⊥) → written s a v ≡ with_digits s (digit_written s.time.digits (a - 1) v)
  to_digit a p q =
      let d = with_digits s (digit_written s.time.digits (a - 1) v) in
      ap (λ b. cond b (control_written s v) (cond (eqb a 15) (cond s.select (interrupt_written s v) (with_digits s (setting_written s.time.digits v))) d)) (ne_eqb a 0 p)
      ∙ ap (λ b. cond b (cond s.select (interrupt_written s v) (with_digits s (setting_written s.time.digits v))) d) (ne_eqb a 15 q)
