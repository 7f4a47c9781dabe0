use Rattle.std.proofs.Common.{ℕ, List, [], ◌∷◌, ◌++◌, ◌∙◌, sym, ap}
use Rattle.std.proofs.Output.{has_written_of_eq}
use Rattle.std.specs.Prelude.{codes}
use Rattle.text_print.specs.Text.{data_text}
use Rattle.explain_rule.specs.Carried.{place_text}
use Rattle.explain_rule.proofs.Prefix.{grouped}
use Rattle.explain_rule.proofs.carried.FoundLineDisplay.fmt.Goals as goal

pub returns-clause-writes : goal.returns-clause-writes
returns-clause-writes g c plain ok =
    let found = data_text c.args.self.now.found.now in
    let addresses = c.args.self.now.addresses.now in
    let text : ℕ → List ℕ = λ place. codes "  found   " ++ found ++ codes ", first different at byte "
    ++ place_text addresses place ++ 10 ∷ [] in
    let fields = grouped (codes "  found   ") found (codes ", first different at byte ")
    (place_text addresses c.first_difference.result) (10 ∷ []) in
    has_written_of_eq _ _ _ _ _ (sym fields ∙ ap text c.first_difference.ensures) (c.write.ensures.writes plain ok)
