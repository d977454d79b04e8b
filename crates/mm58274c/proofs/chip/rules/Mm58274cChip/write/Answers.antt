use Rattle.std.proofs.Common.{◌≡◌, ◌+◌, ◌-◌, Ok, sym, refl, ap, ◌∙◌, subst, arith}
use Rattle.mm58274c.specs.Address.{Is}
use Rattle.mm58274c.specs.View.{registers}
use Rattle.mm58274c.specs.Registers.{digit_written, interrupt_written, with_digits}
use Rattle.mm58274c.proofs.Writing.{lands, to_digit, to_interrupt}
use Rattle.mm58274c.specs.Told.{time_sound}
use Rattle.mm58274c.proofs.chip.rules.Mm58274cChip.write.Goals as goal

pub returns-in_ok-digit-in-Digit : goal.returns-in_ok-digit-in-Digit
returns-in_ok-digit-in-Digit c =
    let s = registers c.args.self.now in
    let a = c.args.address in
    let k = c.in-Digit.column in
    let at : c.args.address ≡ 1 + k.index = subst (λ r. Is r a) c.in-Digit.is c.in_ok-try_from.ensures in
    let n = c.in_ok-digit-in-Digit in
    let d : c.with_digit.result.columns ≡ digit_written s.time.digits (c.args.address - 1) c.args.value =
    c.with_digit.ensures ∙ (λ i. digit_written (c.digits-digits.ensures i) ((let e : k.index ≡ c.args.address - 1 = omega arith in e) i) (n.ensures.0 i)) in
    lands c.args.self.now c.hold.result c.hold.new.self a c.args.value (with_digits s c.with_digit.result.columns)
    (omega (arith, k.digit), ((λ e. omega (arith, k.digit)), (n.ensures.1, ((λ e. absurd (omega (arith, k.digit))), tt))))
    (to_digit s c.args.value a (λ e. omega (arith, k.digit)) (λ e. omega (arith, k.digit)) ∙ ap (with_digits s) (sym d)) c.hold.ensures

pub returns-in_ok-try_from-in-Selected : goal.returns-in_ok-try_from-in-Selected
returns-in_ok-try_from-in-Selected c =
    let x = c.args.self.now in
    let s = registers x in
    let a = c.args.address in
    let at : c.args.address ≡ 15 = subst (λ r. Is r a) c.in-Selected.is c.in_ok-try_from.ensures in
    let n = c.in_ok-try_from-in-Selected in
    lands x (Ok tt) c.load_interrupt.new.self a c.args.value (interrupt_written s n.field-0.value)
    (omega arith, ((λ e. omega arith), (n.ensures.1, ((λ e. absurd (omega arith)), tt))))
    (to_interrupt s c.args.value a at c.if-self.true ∙ ap (interrupt_written s) (sym n.ensures.0))
    (((time_sound x.counters).lawful, tt), (refl, c.load_interrupt.ensures))
