use Rattle.std.proofs.Common.{ap, ◌∙◌, subst}
use Rattle.lf_verdict.specs.declared.fed.Fed.{Fed}
use Rattle.lf_verdict.specs.Seen.{Seen}
use Rattle.lf_verdict.specs.Conclusion.{IsConclusion}
use Rattle.lf_verdict.proofs.session.parallel.ParallelSession.conclude.Goals as goal

pub returns-clause-fed : goal.returns-clause-fed
returns-clause-fed g c =
    ap (λ (f : Fed). f.bytes) c.conclude-conclusion.ensures.fed ∙ ap (λ (s : Seen). s.fed) c.self.view_is

pub returns-clause-concluded : goal.returns-clause-concluded
returns-clause-concluded g c =
    subst (λ (s : Seen). IsConclusion s.asked s.shape c.conclude-conclusion.result) c.self.view_is
    c.conclude-conclusion.ensures.concluded
