use Rattle.std.proofs.Common.{[], ◌∷◌, sym}
use Rattle.std.proofs.Output.{has_written_of_eq}
use Rattle.std.specs.Prelude.{codes}
use Rattle.std.specs.Fmt.{decimal}
use Rattle.text_print.specs.Text.{hexadecimal}
use Rattle.explain_rule.proofs.Prefix.{grouped_six}
use Rattle.explain_rule.proofs.state.HeadingDisplay.fmt.Goals as goal

pub returns-clause-writes : goal.returns-clause-writes
returns-clause-writes g c plain ok =
    let named = c.args.self.now.0.now in
    has_written_of_eq _ _ _ _ _ (sym (grouped_six (10 ∷ codes "block=") (decimal named.block) (codes " address=")
    (hexadecimal named.address)
    (codes " before it:") (10 ∷ []))) (c.write.ensures.writes plain ok)
