use Rattle.std.proofs.Common.{◌≡◌, ◌%◌, ap, ◌∙◌, arith}
use mir.Val.{bool_byte}
use lib.Bits.{bit_and}
use Rattle.std.proofs.lemmas.Nat.{and_mask}
use Rattle.clock.proofs.Masks.{register, bit_of}
use Rattle.clock.proofs.setting.register.U8FromSetting.from.Goals as goal

pub returns : goal.returns
returns c =
    let s = c.args.setting in
    let p = bit_of s.pm c.from-pm.result c.from-pm.ensures in
    let h = bit_of _ c.from-mode.result (c.from-mode.ensures ∙ ap bool_byte c.from.ensures) in
    let l : bit_and s.leap 3 ≡ s.leap % 4 = and_mask s.leap 2 in
    let r = register (s.leap % 4) c.from-pm.result c.from-mode.result (omega arith) p.1 h.1 in
    rw l (omega (arith, r, p.0, h.0))
