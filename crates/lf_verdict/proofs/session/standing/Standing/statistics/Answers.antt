use Rattle.std.proofs.Common.{Option, length, subst}
use Rattle.std.specs.Prelude.{IfSome}
use Rattle.std.specs.Global.{Vec}
use Rattle.lf_stats.specs.declared.counts.BankStats.{BankStats}
use Rattle.lf_verdict.specs.inner.Counting.{AreCountsOf}
use Rattle.lf_verdict.proofs.Statistics.{are_stats}
use Rattle.lf_verdict.proofs.session.standing.Standing.statistics.Goals as goal

pub returns-clause-counted : goal.returns-clause-counted
returns-clause-counted c shape memory records stands short parts =
    let banks = c.deref.result.now in
    are_stats c.numbers_are_whole.ensures.one c.slice_runs_accept_issued.ensures c.counts_are_statistics.ensures shape
    memory records c.args.self.now stands short parts
    (record { banks = c.in-Some.banks; unanswered = c.in_ok-unanswered.unanswered })
    banks c.deref-2.result.now c.deref.ensures.value c.deref-2.ensures.value
    (subst (λ (found : Option (Vec BankStats)). IfSome found (λ counts. AreCountsOf (length banks) banks counts.items))
    c.in-Some.is c.in_ok-banks.ensures.counts) c.in_ok-unanswered.ensures.count c.in_ok-unanswered.ensures.each
