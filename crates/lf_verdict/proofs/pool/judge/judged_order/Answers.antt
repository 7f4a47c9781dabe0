use Rattle.lf_rules.specs.Lists.{lists_of}
use Rattle.lf_verdict.proofs.Skeletons.{all_whole}
use Rattle.lf_verdict.proofs.pool.judge.judged_order.Goals as goal

pub order_of-requires-clause-whole : goal.order_of-requires-clause-whole
order_of-requires-clause-whole c = all_whole c.args.jobs.now.shape (lists_of c.args.jobs.now.logs)
    c.requires.ready.fit c.requires.whole
