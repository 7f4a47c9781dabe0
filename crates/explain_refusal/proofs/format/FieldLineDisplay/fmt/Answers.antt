use Rattle.std.proofs.Common.{[], ◌∷◌, sym}
use Rattle.std.proofs.Output.{has_written_of_eq}
use Rattle.std.specs.Prelude.{codes}
use Rattle.explain_refusal.specs.Field.{field_text, value_text}
use Rattle.explain_refusal.specs.Allowed.{allowed_text}
use Rattle.explain_refusal.proofs.Grouped.{seven}
use Rattle.explain_refusal.proofs.format.FieldLineDisplay.fmt.Goals as goal

pub returns-clause-writes : goal.returns-clause-writes
returns-clause-writes g c plain ok =
    let it = c.args.self.now in
    let text =
    seven (codes "  ") (field_text it.field) (codes ":") (value_text it.field it.bytes.now) (codes "; ")
    (allowed_text it.allowed) (10 ∷ []) in
    has_written_of_eq _ _ _ _ _ (sym text) (c.write.ensures.writes plain ok)
