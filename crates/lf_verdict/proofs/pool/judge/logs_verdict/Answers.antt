use Rattle.lf_rules.specs.Address.{flat_memory}
use Rattle.lf_rules.specs.Lists.{lists_of}
use Rattle.lf_verdict.proofs.Answered.{of_jobs}
use Rattle.lf_verdict.proofs.pool.judge.logs_verdict.Goals as goal

pub returns-in-Ok-run_jobs-clause-verdict : goal.returns-in-Ok-run_jobs-clause-verdict
returns-in-Ok-run_jobs-clause-verdict g c =
    of_jobs c.args.shape.now (flat_memory c.args.memory.items) (lists_of c.args.logs) c.in-Ok.jobs c.jobs_verdict.result
    c.in-Ok.ensures.jobs c.jobs_verdict.ensures
