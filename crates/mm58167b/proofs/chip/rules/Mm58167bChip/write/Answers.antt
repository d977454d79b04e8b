use Rattle.std.proofs.Common.{◌≡◌, ◌+◌, Ok, ◌∙◌, sym, refl, subst, inl, arith}
use Rattle.clock.proofs.Shown167.{face_lawful}
use Rattle.mm58167b.specs.Address.{Is}
use Rattle.mm58167b.specs.Layout.{with_byte}
use Rattle.mm58167b.specs.Registers.{with_digits}
use Rattle.mm58167b.specs.View.{registers}
use Rattle.mm58167b.proofs.Writing.{lands, ram_written}
use Rattle.mm58167b.proofs.chip.rules.Mm58167bChip.write.Goals as goal

pub returns-in_ok-byte-in-Ram : goal.returns-in_ok-byte-in-Ram
returns-in_ok-byte-in-Ram c =
    let x = c.args.self.now in
    let s = registers x in
    let p = c.in-Ram.place in
    let a = c.args.address in
    let e : c.args.address ≡ 8 + p.index = subst (λ r. Is r a) c.in-Ram.is c.in_ok-place.ensures in
    let b = c.in_ok-byte-in-Ram in
    lands x (Ok tt) c.write_ram.new.self a c.args.value
    (with_digits s s.digits (with_byte s.ram p.index b.field-0))
    (inl (omega (arith, p.within)), ((λ f. omega (arith, p.within)), (b.ensures.1, tt)))
    (ram_written s p.index a p.within e c.args.value ∙ (λ i. with_digits s s.digits (with_byte s.ram p.index (sym b.ensures.0 i))))
    ((face_lawful x.clock.counters, tt), (refl, c.write_ram.ensures))
