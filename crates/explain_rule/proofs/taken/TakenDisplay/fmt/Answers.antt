use Rattle.std.proofs.Common.{[], ◌∷◌, sym}
use Rattle.std.proofs.Output.{has_written_of_eq}
use Rattle.std.specs.Prelude.{codes}
use Rattle.std.specs.Fmt.{decimal}
use Rattle.explain_rule.proofs.Prefix.{grouped_seven}
use Rattle.explain_rule.proofs.taken.TakenDisplay.fmt.Goals as goal

pub returns-clause-writes : goal.returns-clause-writes
returns-clause-writes g c plain ok =
    let it = c.args.self.now in
    let text = grouped_seven (codes "  register=") (decimal it.register) (codes " holds block=") (decimal it.block)
    (codes " with targets=") (decimal it.targets) (10 ∷ []) in
    has_written_of_eq _ _ _ _ _ (sym text) (c.write.ensures.writes plain ok)
