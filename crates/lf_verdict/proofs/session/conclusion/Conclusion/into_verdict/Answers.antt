use Rattle.std.proofs.Common.{sym, subst}
use Rattle.lf_verdict.specs.Laws.{IsRunlessNo}
use Rattle.lf_verdict.specs.Verdict.{IsVerdictOf, IsDecided, IsLegalYes}
use Rattle.lf_verdict.proofs.Verdicts.{with_legal, with_runless, with_verdict}
use Rattle.lf_verdict.proofs.session.conclusion.Conclusion.into_verdict.Goals as goal

pub returns-clause-legal : goal.returns-clause-legal
returns-clause-legal c asked shape is =
    let end = c.args.self in
    subst (IsLegalYes shape end.fed.bytes) (sym c.verdict_with.ensures)
    (with_legal shape end.fed.bytes end.outcome end.order is.order)

pub returns-clause-runless : goal.returns-clause-runless
returns-clause-runless c asked shape is =
    let end = c.args.self in
    subst (IsRunlessNo shape end.fed.bytes) (sym c.verdict_with.ensures)
    (with_runless shape end.fed.bytes end.outcome end.order is.runless)

pub returns-clause-verdict : goal.returns-clause-verdict
returns-clause-verdict c asked shape workers may is on =
    let end = c.args.self in
    subst (IsVerdictOf shape workers end.fed.bytes) (sym c.verdict_with.ensures)
    (with_verdict shape end.fed.bytes workers end.outcome end.order may is.outcome is.order
    (subst IsDecided c.verdict_with.ensures on))
