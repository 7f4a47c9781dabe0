use Rattle.std.proofs.Common.{ℕ, List, subst}
use Rattle.std.specs.Prelude.{IfSome}
use Rattle.run_shrink.specs.Broken.{HasFault}
use Rattle.run_shrink.proofs.Faults.{has_fault_if}
use Rattle.run_shrink.proofs.candidate.fault_of.Goals as goal

pub returns : goal.returns
returns c =
    let conclusion = c.concluded-conclusion.result in
    let is = c.concluded-conclusion.ensures.concluded.1 in
    let first = c.args.sought.first in
    let shape = c.args.shape.now in
    subst (λ (bytes : List ℕ). IfSome c.of_conclusion.result (HasFault first shape bytes))
    c.concluded-conclusion.ensures.fed
    (has_fault_if shape conclusion.fed.bytes first conclusion.outcome conclusion.broken c.of_conclusion.result
    is.outcome is.earliest c.of_conclusion.ensures)
