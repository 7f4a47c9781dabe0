use Rattle.std.proofs.Common.{[], ◌∷◌, sym}
use Rattle.std.proofs.Output.{has_written_of_eq}
use Rattle.std.specs.Prelude.{codes}
use Rattle.explain_rule.specs.State.{answer_text}
use Rattle.explain_rule.proofs.Prefix.{grouped}
use Rattle.explain_rule.proofs.state.AskedDisplay.fmt.Goals as goal

pub returns-clause-writes : goal.returns-clause-writes
returns-clause-writes g c plain ok =
    let state = c.args.self.now.0.now in
    has_written_of_eq _ _ _ _ _ (sym (grouped (codes "  asked of level two    ") (answer_text state.asked)
    (10 ∷ codes "  supplied by level two ") (answer_text state.supplied) (10 ∷ []))) (c.write.ensures.writes plain ok)
