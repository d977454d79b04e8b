-- Shifts and masks of small registers as quotients and remainders.
use Rattle.std.proofs.Common.{◌≡◌, ℕ, ◌+◌, ◌*◌, ◌%◌, ◌<◌, Bool, true, false, ap, ◌∙◌, arith}
use mir.Val.{bool_byte}
use lib.Bits.{bit_or}
use Rattle.std.proofs.lemmas.Nat.{or_shifted}
use Rattle.clock.specs.Mm58274c.{bit}

-- two bits, one bit and one bit in one register
pub register : (l p h : ℕ) → l < 4 → p < 2 → h < 2 → bit_or (bit_or ((l * 4) % 256) ((p * 2) % 256)) h ≡ 4 * l + 2 * p + h
register l p h kl kp kh =
    let e : (l * 4) % 256 ≡ l * 4 = omega arith in
    let f : (p * 2) % 256 ≡ p * 2 = omega arith in
    let g : bit_or ((l * 4) % 256) ((p * 2) % 256) ≡ (2 * l + p) * 2 =
    ap (λ x. bit_or x ((p * 2) % 256)) e ∙ ap (bit_or (l * 4)) f ∙ or_shifted l 2 (p * 2) (omega arith) ∙ omega arith in
    ap (λ x. bit_or x h) g ∙ or_shifted (2 * l + p) 1 h kh ∙ omega arith

pub bit_of : (b : Bool) (n : ℕ) → n ≡ bool_byte b → (n ≡ bit b) × (n < 2)
bit_of true n e = (e, omega arith)
bit_of false n e = (e, omega arith)
