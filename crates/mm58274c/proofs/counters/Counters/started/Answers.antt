use Rattle.std.proofs.Common.{◌≡◌, true, sym, refl, subst}
use Rattle.clock.proofs.Shown274.{face_lawful}
use Rattle.mm58274c.specs.declared.counters.Counters.{Counters}
use Rattle.mm58274c.specs.Registers.{RunsLawfully}
use Rattle.mm58274c.specs.View.{time}
use Rattle.mm58274c.proofs.counters.Counters.started.Goals as goal

pub returns-in-Running : goal.returns-in-Running
returns-in-Running c =
    subst (λ (s : Counters). RunsLawfully (record { digits = (time s).digits; running = true; held = (time s).held }) × (time s ≡ record { digits = (time s).digits; running = true; held = (time s).held })) (sym c.in-Running.is)
    (λ _. face_lawful c.in-Running.field-0.counters, refl)
