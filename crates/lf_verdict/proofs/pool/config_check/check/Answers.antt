-- What holds of the shape that the text says holds of the text.
use Rattle.std.proofs.Common.{◌≡◌, ℕ, List, Ok, sym, ◌∙◌, subst}
use Rattle.lf_rules.specs.declared.shape.Shape.{Shape}
use Rattle.lf_config.specs.Configuration.{configuration_of}
use Rattle.lf_verdict.specs.declared.answer.Verdict.{Verdict}
use Rattle.lf_verdict.specs.declared.answer.Verdict.TheVariants.{Yes, No, Refused}
use Rattle.lf_verdict.specs.declared.answer.Refusal.TheVariants as refusals
use Rattle.lf_verdict.specs.Configured.{IsLegalYesFor, IsRunlessNoFor, IsVerdictFor, IsConfiguredVerdict}
use Rattle.lf_verdict.specs.Laws.{IsRunlessNo}
use Rattle.lf_verdict.specs.Verdict.{IsLegalYes, IsTraceVerdict, IsVerdictOf}
use Rattle.lf_verdict.proofs.pool.config_check.check.Goals as goal

module _ (text bytes : List ℕ) (shape : Shape) (said : configuration_of text ≡ Ok shape) where
  legal_for : (v : Verdict) → IsLegalYes shape bytes v → IsLegalYesFor text bytes v
  legal_for (Yes events order) is = (record { shape = shape; configured = said; legal = is.0 }, is.1)
  legal_for (No fault) is = tt
  legal_for (Refused refusal) is = tt

  runless_for : (v : Verdict) → IsRunlessNo shape bytes v → IsRunlessNoFor text bytes v
  runless_for v is other e =
      let both = sym said ∙ e in
      let same : shape ≡ other = cc in
      subst (λ (s : Shape). IsRunlessNo s bytes v) same is

  configured : (v : Verdict) → IsTraceVerdict shape bytes v → IsConfiguredVerdict text bytes v
  configured v is = record { shape = shape; configured = said; verdict = is }

  verdict_for : (workers : ℕ) (v : Verdict) → IsVerdictOf shape workers bytes v → IsVerdictFor text workers bytes v
  verdict_for workers (Yes events order) is = (is.0, configured (Yes events order) is.1)
  verdict_for workers (No fault) is = (is.0, configured (No fault) is.1)
  verdict_for workers (Refused (refusals.Workers n)) is = is
  verdict_for workers (Refused (refusals.Config fault)) is = absurd is.1
  verdict_for workers (Refused (refusals.Format fault)) is = (is.0, configured (Refused (refusals.Format fault)) is.1)
  verdict_for workers (Refused (refusals.Header field)) is = (is.0, configured (Refused (refusals.Header field)) is.1)
  verdict_for workers (Refused refusals.Memory) is = absurd is.1
  verdict_for workers (Refused refusals.Thread) is = absurd is.1

pub returns-in-Ok-clause-legal : goal.returns-in-Ok-clause-legal
returns-in-Ok-clause-legal g c = legal_for c.args.config.now _ c.in-Ok.shape c.in-Ok.ensures.gives
    c.check_shape.result c.check_shape.ensures.legal

pub returns-in-Ok-clause-runless : goal.returns-in-Ok-clause-runless
returns-in-Ok-clause-runless g c = runless_for c.args.config.now _ c.in-Ok.shape c.in-Ok.ensures.gives
    c.check_shape.result c.check_shape.ensures.runless

pub returns-in-Ok-clause-verdict : goal.returns-in-Ok-clause-verdict
returns-in-Ok-clause-verdict g c judged = verdict_for c.args.config.now _ c.in-Ok.shape c.in-Ok.ensures.gives
    c.args.workers c.check_shape.result (c.check_shape.ensures.verdict judged)
