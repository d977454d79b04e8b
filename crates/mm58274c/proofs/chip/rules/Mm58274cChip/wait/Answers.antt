use Rattle.std.proofs.Common.{◌||◌, ltb, sym, ◌∙◌, arith}
use Rattle.mm58274c.specs.View.{registers}
use Rattle.mm58274c.specs.Waiting.{at_once}
use Rattle.mm58274c.proofs.chip.rules.Mm58274cChip.wait.Goals as goal

pub returns : goal.returns
returns c =
    let s = registers c.args.self.now in
    let w = c.wait-steps in
    let o = at_once s c.args.cycles w.result (c.on-rang.new.self.timer, c.on-rang.result) w.ensures.steps c.on-rang.ensures.after in (
      (omega (arith, c.in_ok-age.ensures, c.in_ok-age.age.young), tt),
      (
        (λ i. record { steps = w.ensures.steps i }),
        (λ i. record {
          time = record { digits = w.ensures.digits i; running = w.ensures.running i; held = w.ensures.held i };
          select = s.select;
          interrupt = (c.on-rang.ensures.register i).value;
          timer = c.on-rang.new.self.timer;
          flags = record { changed = s.flags.changed || ltb 0 w.result; rang = s.flags.rang || c.on-rang.result; kept = s.flags.kept };
          armed = s.armed;
          age = c.in_ok-age.ensures i;
          calls = s.calls;
        }) ∙ sym o,
      ),
    )
