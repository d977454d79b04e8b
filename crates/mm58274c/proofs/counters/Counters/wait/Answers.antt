use Rattle.std.proofs.Common.{rules}
use Rattle.clock.specs.Times.{times}
use Rattle.mm58274c.proofs.counters.Counters.wait.Goals as goal

pub returns-in-Stopped-clause-digits : goal.returns-in-Stopped-clause-digits
unfolding times
returns-in-Stopped-clause-digits c = search rules
