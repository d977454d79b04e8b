-- Accesses by their registers.
use Rattle.std.proofs.Common.{◌≡◌, ℕ, ◌+◌, ◌-◌, ◌≤◌, [], ◌∷◌, Result, sym, ap, ◌∙◌, subst, arith}
use Rattle.std.proofs.lemmas.Bool.{cond-false, le-ltb, ne_eqb}
use Rattle.clock.specs.Mm58167b.{Lawful}
use Rattle.chips.specs.declared.refusal.Refusal.{Refusal}
use Rattle.chips.specs.declared.refusal.Refusal.TheVariants.{Unlawful}
use Rattle.chips.specs.Questions.{◌unless◌, AllYes, Gives}
use Rattle.chips.proofs.Asking.{asked_after}
use Rattle.mm58167b.specs.declared.chip.Mm58167b.{Mm58167b}
use Rattle.mm58167b.specs.Layout.{byte, with_byte}
use Rattle.mm58167b.specs.Registers.{Registers, access_questions, shown_at, after_read, with_digits, write_questions, written}
use Rattle.mm58167b.specs.View.{Lands, registers}

pub lands : (x : Mm58167b) (r : Result (Unit {0}) Refusal) (y : Mm58167b) (a v : ℕ) (t : Registers) → AllYes (access_questions a v) → written (registers x) a v ≡ t → Lands t x r y →
    Gives registers (write_questions (registers x) a v) tt (written (registers x) a v) x r y
lands x r y a v t h e l =
    asked_after (access_questions a v) (Unlawful unless (Lawful (written (registers x) a v).digits) ∷ []) (λ u z. (u ≡ tt) × (registers z ≡ written (registers x) a v)) x r y h
    (subst (λ (s : Registers). Lands s x r y) (sym e) l)

-- the RAM's byte i, at address 8 + i
module _ (s : Registers) (i a : ℕ) (l : i ≤ 7) (e : a ≡ 8 + i) where
  abbrev byte_is : a - 8 ≡ i
  byte_is = omega arith

  pub ram_shown : shown_at s a ≡ byte s.ram i
  ram_shown = cond-false _ _ _ (ne_eqb a 20 (omega arith)) ∙ cond-false _ _ _ (le-ltb a 8 (omega arith)) ∙ ap (byte s.ram) byte_is

  pub ram_read : after_read s a ≡ s
  ram_read = cond-false _ _ _ (ne_eqb a 20 (omega arith)) ∙ cond-false _ _ _ (le-ltb a 8 (omega arith))

  pub ram_written : (v : ℕ) → written s a v ≡ with_digits s s.digits (with_byte s.ram i v)
  ram_written v = cond-false _ _ _ (le-ltb a 8 (omega arith)) ∙ ap (λ k. with_digits s s.digits (with_byte s.ram k v)) byte_is
