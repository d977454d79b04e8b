-- What a running clock is told by.
use Rattle.std.proofs.Common.{◌≡◌, ℕ}
use denote.Param.{number}
use denote.RattleType.{RattleType}
use denote.Struct.Record.{values_one}
use Rattle.clock.specs.declared.calendar.Calendar.{Ghosts}
use Rattle.clock.specs.declared.ticking.Ticking.{Ticking}
use Rattle.clock.specs.contracts.ticking.Ticking as ticking

-- of counters C with n columns
pub ticking_told : (C : RattleType) (n : ℕ) (g : Ghosts C.Denot n) (a b : Ticking C.Denot n g) → a.counters ≡ b.counters → a.held ≡ b.held → a ≡ b
ticking_told C n g a b e f =
    values_one (ticking.struct C (number n) g) (ticking.the_propositions C.Denot n g C.coded) a b (λ i. (e i, (f i, tt)))
