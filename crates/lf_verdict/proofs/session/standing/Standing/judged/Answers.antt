use Rattle.std.proofs.Common.{sym, subst}
use Rattle.lf_verdict.specs.declared.answer.Outcome.{Outcome}
use Rattle.lf_verdict.specs.inner.Coming.{logs_so_far}
use Rattle.lf_verdict.specs.inner.Judged.{IsLogsJudged}
use Rattle.lf_verdict.proofs.Concluded.{told_alone, of_ending, no_yes_ending}
use Rattle.lf_verdict.proofs.session.standing.Standing.judged.Goals as goal

pub returns-in-Err-clause-judged : goal.returns-in-Err-clause-judged
returns-in-Err-clause-judged c shape memory records stands short =
    let logs = logs_so_far shape records in
    subst (IsLogsJudged shape memory logs) (sym c.of.ensures)
    (subst (λ (o : Outcome). IsLogsJudged shape memory logs (told_alone o)) (sym c.from.ensures)
    (of_ending shape memory logs c.in-Err.ending (c.in-Err.ensures.fault shape memory records stands short)))

pub returns-in-Err-clause-ordered : goal.returns-in-Err-clause-ordered
returns-in-Err-clause-ordered c keeps told =
    absurd (no_yes_ending c.in-Err.ending c.from.result c.of.result c.from.ensures c.of.ensures told)

pub returns-in-Err-clause-counted : goal.returns-in-Err-clause-counted
returns-in-Err-clause-counted c counts told =
    absurd (no_yes_ending c.in-Err.ending c.from.result c.of.result c.from.ensures c.of.ensures told)
