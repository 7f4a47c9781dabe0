use Rattle.run_report.proofs.CoverLemmas.{covered_if}
use Rattle.run_report.proofs.cover.coverage_of.Goals as goal

pub cover-requires-clause-logs : goal.cover-requires-clause-logs
cover-requires-clause-logs c = c.in_ok-logs.ensures.count

pub cover-requires-clause-short : goal.cover-requires-clause-short
cover-requires-clause-short c = c.in_ok-logs.ensures.short

pub cover-requires-clause-whole : goal.cover-requires-clause-whole
cover-requires-clause-whole c = c.in_ok-logs.ensures.whole

pub returns : goal.returns
returns c = covered_if _ _ c.in_ok-logs.logs c.cover.result c.in_ok-logs.ensures c.cover.ensures
