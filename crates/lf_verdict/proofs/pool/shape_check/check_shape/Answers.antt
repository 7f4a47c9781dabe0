use Rattle.std.proofs.Common.{refl}
use Rattle.lf_verdict.proofs.Answered.{workers_legal, workers_runless, workers_verdict, workers_never_workers}
use Rattle.lf_verdict.proofs.pool.shape_check.check_shape.Goals as goal

pub returns-clause-legal : goal.returns-clause-legal
returns-clause-legal g c = workers_legal c.yes_is_legal.ensures c.args.shape.now _ c.workers_verdict.result
    c.workers_verdict.ensures.answer

pub returns-clause-runless : goal.returns-clause-runless
returns-clause-runless g c = workers_runless c.no_has_no_run.ensures c.args.shape.now _ c.workers_verdict.result
    c.workers_verdict.ensures.answer

pub returns-clause-verdict : goal.returns-clause-verdict
returns-clause-verdict g c =
    workers_verdict c.args.shape.now c.args.workers _ c.workers_verdict.result
    (c.if-not-is_worker_count.ensures.0 refl) c.workers_verdict.ensures.answer

pub returns-clause-workers : goal.returns-clause-workers
returns-clause-workers g c = (
  λ e. absurd (workers_never_workers c.args.shape.now _ c.workers_verdict.result c.args.workers
      c.workers_verdict.ensures.answer e),
  λ none. absurd (none (c.if-not-is_worker_count.ensures.0 refl)),
)
