use Rattle.std.proofs.Common.{◌≡◌, ℕ, List, Option, Some, None, sym, ap, ◌∙◌, subst, arith}
use Rattle.std.specs.Prelude.{IfSome}
use Rattle.lf_verdict.specs.declared.answer.Outcome.{Outcome}
use Rattle.lf_verdict.specs.declared.answer.Outcome.TheVariants as outcomes
use Rattle.lf_verdict.specs.declared.answer.Verdict.TheVariants.{Refused}
use Rattle.lf_verdict.specs.declared.stop.Stop.{Stop}
use Rattle.lf_verdict.specs.Conclusion.{verdict_with}
use Rattle.lf_verdict.specs.Laws.{IsRunlessNo}
use Rattle.lf_verdict.specs.Session.{refusal_of}
use Rattle.lf_verdict.specs.Verdict.{IsVerdictOf, IsLegalYes}
use Rattle.lf_verdict.proofs.Verdicts.{with_thread}
use Rattle.lf_verdict.proofs.session.Session.finish.Goals as goal

pub returns-clause-legal : goal.returns-clause-legal
returns-clause-legal c =
    let s = c.args.self in
    subst (λ (bytes : List ℕ). IsLegalYes s.shape bytes c.into_verdict.result) c.conclude.ensures.fed
    (c.into_verdict.ensures.legal s.asked s.shape c.conclude.ensures.concluded)

pub returns-clause-runless : goal.returns-clause-runless
returns-clause-runless c =
    let s = c.args.self in
    subst (λ (bytes : List ℕ). IsRunlessNo s.shape bytes c.into_verdict.result) c.conclude.ensures.fed
    (c.into_verdict.ensures.runless s.asked s.shape c.conclude.ensures.concluded)

pub returns-clause-verdict : goal.returns-clause-verdict
returns-clause-verdict c on =
    let s = c.args.self in
    subst (λ (bytes : List ℕ). IsVerdictOf s.shape 1 bytes c.into_verdict.result) c.conclude.ensures.fed
    (c.into_verdict.ensures.verdict s.asked s.shape 1 (omega arith, omega arith) c.conclude.ensures.concluded on)

pub returns-clause-stopped : goal.returns-clause-stopped
returns-clause-stopped c = go c.args.self.stop c.conclude.ensures.stopped
  where
    go : (stop : Option Stop) → IfSome stop (λ stop. c.conclude.result.outcome ≡ outcomes.Refused (refusal_of stop)) →
        IfSome stop (λ stop. c.into_verdict.result ≡ Refused (refusal_of stop))
    go (Some stop) is = c.into_verdict.ensures.told
        ∙ ap (λ (o : Outcome). verdict_with o c.conclude.result.order) is
    go None is = tt

pub returns-clause-thread : goal.returns-clause-thread
returns-clause-thread c e =
    c.conclude.ensures.concluded.thread
    (with_thread c.conclude.result.outcome c.conclude.result.order (sym c.into_verdict.ensures.told ∙ e))
