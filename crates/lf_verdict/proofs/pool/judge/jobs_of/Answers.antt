use Rattle.std.proofs.Common.{rules}
use Rattle.lf_rules.specs.Address.{flat_memory}
use Rattle.lf_verdict.proofs.pool.judge.jobs_of.Goals as goal

pub returns-in_err-orders-clause-fault : goal.returns-in_err-orders-clause-fault
returns-in_err-orders-clause-fault c = let h = c.in_err-orders.ensures.fault (flat_memory c.args.memory.items) in
    search rules
