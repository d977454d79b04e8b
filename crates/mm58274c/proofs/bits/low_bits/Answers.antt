use Rattle.std.proofs.Common.{◌≡◌, ◌-◌, ◌*◌, ◌%◌, ◌^◌, ◌<◌, ◌≤◌, ap, ◌∙◌, mod-lt, arith, pow_pos, pow_mono}
use lib.Bits.{bit_and}
use Rattle.std.proofs.lemmas.Nat.{and_mask}
use Rattle.mm58274c.proofs.bits.low_bits.Goals as goal

pub returns : goal.returns
returns c =
    let k = c.args.bits in
    let p : 2 ^ c.args.bits ≤ 2 ^ 4 = pow_mono c.requires in
    let e : (1 * 2 ^ c.args.bits) % 256 - 1 ≡ 2 ^ c.args.bits - 1 = omega arith in
    let m : bit_and c.args.digit ((1 * 2 ^ c.args.bits) % 256 - 1) ≡ c.args.digit % 2 ^ c.args.bits = ap (bit_and c.args.digit) e ∙ and_mask c.args.digit c.args.bits in
    let l : c.args.digit % 2 ^ c.args.bits < 2 ^ c.args.bits = mod-lt c.args.digit (pow_pos c.args.bits) in
    (m, omega arith)
