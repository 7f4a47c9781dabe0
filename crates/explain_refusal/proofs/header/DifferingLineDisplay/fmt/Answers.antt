use Rattle.std.proofs.Common.{[], ◌∷◌, sym}
use Rattle.std.proofs.Output.{has_written_of_eq}
use Rattle.std.specs.Prelude.{codes}
use Rattle.std.specs.Fmt.{decimal}
use Rattle.explain_refusal.proofs.Grouped.{nine}
use Rattle.explain_refusal.proofs.header.DifferingLineDisplay.fmt.Goals as goal

pub returns-clause-writes : goal.returns-clause-writes
returns-clause-writes g c plain ok =
    let it = c.args.self.now in
    let text =
    nine (codes "the header of the trace says ") (it.word.now) (codes "=") (decimal it.traced)
    (codes ", the configuration says ") (it.key.now) (codes "=") (decimal it.configured) (10 ∷ []) in
    has_written_of_eq _ _ _ _ _ (sym text) (c.write.ensures.writes plain ok)
