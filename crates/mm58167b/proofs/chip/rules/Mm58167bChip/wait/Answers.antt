use Rattle.std.proofs.Common.{◌&&◌, ◌||◌, ltb, sym, ◌∙◌, arith}
use Rattle.mm58167b.specs.View.{registers}
use Rattle.mm58167b.specs.Waiting.{at_once}
use Rattle.mm58167b.proofs.chip.rules.Mm58167bChip.wait.Goals as goal

pub returns : goal.returns
returns c =
    let s = registers c.args.self.now in
    let w = c.wait-steps in
    let n = c.args.cycles in
    let age = c.in_ok-age.age in (
      (omega (arith, c.in_ok-age.ensures, age.young), tt),
      (
        (λ i. record { steps = w.ensures.steps i }),
        (λ i. record {
          digits = w.ensures.face i;
          held = w.ensures.held i;
          ram = s.ram;
          status = s.status || (s.seen && ltb 0 w.result);
          seen = s.seen;
          armed = s.armed;
          age = c.in_ok-age.ensures i;
          calls = s.calls;
        }) ∙ sym (at_once s n w.result w.ensures.steps),
      ),
    )
