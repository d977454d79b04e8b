use Rattle.std.proofs.Common.{refl}
use Rattle.clock.proofs.Cases.{worked_cases_lem}
use Rattle.clock.proofs.worked.worked_cases.Goals as goal

pub returns : goal.returns
returns c = record { days = refl; cases = worked_cases_lem }
