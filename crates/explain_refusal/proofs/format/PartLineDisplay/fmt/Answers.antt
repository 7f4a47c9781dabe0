use Rattle.std.proofs.Common.{[], ◌∷◌, sym}
use Rattle.std.proofs.Output.{has_written_of_eq}
use Rattle.std.specs.Prelude.{codes}
use Rattle.std.specs.Fmt.{decimal}
use Rattle.explain_refusal.specs.Bytes.{listed_bytes}
use Rattle.explain_refusal.proofs.Grouped.{seven}
use Rattle.explain_refusal.proofs.format.PartLineDisplay.fmt.Goals as goal

pub returns-clause-writes : goal.returns-clause-writes
returns-clause-writes g c plain ok =
    let it = c.args.self.now in
    let text =
    seven (codes "the ") (it.name.now) (codes " at ") (decimal it.offset) (codes " has these bytes:")
    (listed_bytes it.bytes.now) (10 ∷ []) in
    has_written_of_eq _ _ _ _ _ (sym text) (c.write.ensures.writes plain ok)
