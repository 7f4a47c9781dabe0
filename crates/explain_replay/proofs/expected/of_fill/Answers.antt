use Rattle.std.proofs.Common.{ℕ, List, ap, ◌∙◌}
use Rattle.lf_rules.specs.Outcomes.{first_local}
use Rattle.lf_replay.specs.Step.{bank_after}
use Rattle.explain_replay.specs.Carried.{filled}
use Rattle.explain_replay.proofs.expected.of_fill.Goals as goal

pub returns-in_ok-due-in-Fill1 : goal.returns-in_ok-due-in-Fill1
returns-in_ok-due-in-Fill1 c = λ shape memory bank rs stands.
    let now = bank_after shape (first_local memory) rs in
    rw c.in-Fill1.is (c.in_ok-due-in-Fill1.ensures ∙ c.deref-in-Fill1.ensures.0
    ∙ c.filled.ensures shape memory bank rs stands
    ∙ ap (λ (found : List ℕ). filled shape now c.in-Fill1.block found) c.deref.ensures.0)

pub returns-in_ok-due-in-Fill2 : goal.returns-in_ok-due-in-Fill2
returns-in_ok-due-in-Fill2 c = λ shape memory bank rs stands. rw c.in-Fill2.is
    (c.in_ok-due-in-Fill2.ensures shape memory bank rs stands)
