use Rattle.std.proofs.Common.{◌≡◌, ℕ, List, Some, sym, ap, ◌∙◌, subst}
use Rattle.run_shrink.specs.Broken.{fault_in, HasFault}
use Rattle.run_shrink.specs.Shrunk.{IsShrunk}
use Rattle.run_shrink.proofs.Faults.{has_fault, is_decided}
use Rattle.run_shrink.proofs.shrink.shrinking_of.Goals as goal

pub shrunk_of-requires-clause-has : goal.shrunk_of-requires-clause-has
shrunk_of-requires-clause-has g c =
    let conclusion = c.args.judged.conclusion in
    let first = c.args.asked.first in
    let fault = c.in-Some.fault in
    let shape = c.args.shape.now in
    let is = c.requires.concluded in
    let found : fault_in first conclusion.outcome conclusion.broken ≡ Some fault =
    sym c.of_conclusion-fault.ensures ∙ c.in-Some.is in
    subst (λ (bytes : List ℕ). HasFault first shape bytes fault)
    (sym (c.requires.kept (is_decided first conclusion.outcome conclusion.broken fault found)))
    (has_fault shape conclusion.fed.bytes first conclusion.outcome conclusion.broken fault is.outcome is.earliest found)

pub returns-in-Ok-clause-shrinking : goal.returns-in-Ok-clause-shrinking
returns-in-Ok-clause-shrinking g c =
    let conclusion = c.args.judged.conclusion in
    let first = c.args.asked.first in
    let found : fault_in first conclusion.outcome conclusion.broken ≡ Some c.in-Some.fault =
    sym c.of_conclusion-fault.ensures ∙ c.in-Some.is in (
      found ∙ ap (λ f. Some f) (sym c.in-Ok.ensures.before),
      subst (λ (bytes : List ℕ). IsShrunk c.args.shape.now bytes first c.args.asked.most c.in-Ok.shrunk)
          (c.requires.kept (is_decided first conclusion.outcome conclusion.broken c.in-Some.fault found))
          c.in-Ok.ensures.shrunk,
    )
