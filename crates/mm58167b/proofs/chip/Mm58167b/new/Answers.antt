use Rattle.std.specs.Prelude.{false}
use Rattle.clock.specs.Registers167.{face}
use Rattle.mm58167b.specs.Registers.{made}
use Rattle.mm58167b.proofs.chip.Mm58167b.new.Goals as goal

pub returns : goal.returns
unfolding face
returns c = λ i. record {
  digits = face (c.started.ensures.counters i);
  held = c.started.ensures.held i;
  ram = made.ram;
  status = false;
  seen = false;
  armed = false;
  age = 0;
  calls = 0;
}
