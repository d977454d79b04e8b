use Rattle.std.proofs.Common.{◌≡◌, ◌+◌, ◌∙◌, sym, subst, inl, arith}
use Rattle.mm58167b.specs.Address.{Is}
use Rattle.mm58167b.specs.View.{registers}
use Rattle.mm58167b.proofs.Writing.{ram_shown, ram_read}
use Rattle.mm58167b.proofs.chip.rules.Mm58167bChip.read.Goals as goal

pub returns-in-Ram : goal.returns-in-Ram
returns-in-Ram c =
    let s = registers c.args.self.now in
    let p = c.in-Ram.place in
    let a = c.args.address in
    let e : c.args.address ≡ 8 + p.index = subst (λ r. Is r a) c.in-Ram.is c.in_ok-place.ensures in
    ((inl (omega (arith, p.within)), tt), (c.byte_at-in-Ram.ensures ∙ sym (ram_shown s p.index a p.within e), sym (ram_read s p.index a p.within e)))
