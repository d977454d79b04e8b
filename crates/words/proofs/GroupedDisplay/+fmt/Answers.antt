use Rattle.std.proofs.Common.{rules, sym}
use Rattle.std.proofs.Output.{has_written_append, has_written_of_eq}
use Rattle.words.proofs.Groups.{long}
use Rattle.words.proofs.GroupedDisplay.+fmt.Goals as goal

pub returns-in_ok-fmt-clause-writes : goal.returns-in_ok-fmt-clause-writes
returns-in_ok-fmt-clause-writes g t c = λ p ok.
    let before = c.fmt.ensures.writes p (search rules) in
    has_written_of_eq _ _ _ _ _ (sym (long c.args.self.now.0 c.if-number-lt1000.false (search rules)))
    (has_written_append _ _ _ _ _ _ before (c.write-else-number-lt1000.ensures.writes before.plain ok))
