use Rattle.std.proofs.Common.{[], ◌∷◌, sym}
use Rattle.std.proofs.Output.{has_written_of_eq}
use Rattle.std.specs.Prelude.{codes}
use Rattle.std.specs.Fmt.{decimal}
use Rattle.explain_rule.proofs.Prefix.{grouped}
use Rattle.explain_rule.proofs.limit.LimitDisplay.fmt.Goals as goal

pub returns-in-Ways-clause-writes : goal.returns-in-Ways-clause-writes
returns-in-Ways-clause-writes g c plain ok =
    let text = grouped (codes "  there are ways=") (decimal c.in-Ways.ways) (codes " in set=") (decimal c.in-Ways.set)
    (10 ∷ []) in
    rw c.in-Ways.is (has_written_of_eq _ _ _ _ _ (sym text) (c.write-in-Ways.ensures.writes plain ok))
