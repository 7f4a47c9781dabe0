use Rattle.std.proofs.Common.{rules}
use Rattle.lf_verdict.proofs.pool.gathering.read.Goals as goal

pub returns-clause-ok : goal.returns-clause-ok
returns-clause-ok c = c.finish.ensures.ok _ _ (c.in_ok-feed_all.ensures.ok _ c.in_ok-gathered.ensures)

pub returns-clause-err : goal.returns-clause-err
returns-clause-err c = c.finish.ensures.err _ _ (c.in_ok-feed_all.ensures.ok _ c.in_ok-gathered.ensures)

pub returns-in_err-feed_all-clause-err : goal.returns-in_err-feed_all-clause-err
returns-in_err-feed_all-clause-err c = let said = c.in_err-feed_all.ensures.err _ c.in_ok-gathered.ensures in
    search rules
