use Rattle.std.proofs.Common.{◌≡◌, ◌∙◌, arith}
use Rattle.lf_pool.specs.Job.{count_of}
use Rattle.lf_pool.proofs.Ending.{ending, all_some, taken_out}
use Rattle.lf_pool.proofs.pool.run_jobs_by.Goals as goal

pub unwrapped-requires : goal.unwrapped-requires
unwrapped-requires g c =
    let n : c.count-count.result ≡ count_of c.args.jobs.now = c.count-count.ensures.count in
    let e = ending g.P.Replays.may_give c.args.jobs.now _ _ _ _ _ _ _ _ _ _ _
    (c.in_ok-table.ensures.5 ∙ (c.from.ensures ∙ n)) n c.close_with.ensures.values.2 c.take_in.ensures.made
    (c.in_ok-worked.ensures.worked.0 ∙ c.in_ok-claimers.ensures.claimers.0)
    (omega arith) c.in_ok-worked.ensures.worked.1 c.if-not-is_whole.ensures c.in_ok-outcomes.ensures
    c.take_in.ensures.outcomes in
    all_some (g.P.Replays.may_give c.args.jobs.now) _ (λ x h. e.1 x (let m = e.0 in omega arith))

pub returns-clause-outcomes : goal.returns-clause-outcomes
returns-clause-outcomes g c =
    let n : c.count-count.result ≡ count_of c.args.jobs.now = c.count-count.ensures.count in
    let e = ending g.P.Replays.may_give c.args.jobs.now _ _ _ _ _ _ _ _ _ _ _
    (c.in_ok-table.ensures.5 ∙ (c.from.ensures ∙ n)) n c.close_with.ensures.values.2 c.take_in.ensures.made
    (c.in_ok-worked.ensures.worked.0 ∙ c.in_ok-claimers.ensures.claimers.0)
    (omega arith) c.in_ok-worked.ensures.worked.1 c.if-not-is_whole.ensures c.in_ok-outcomes.ensures
    c.take_in.ensures.outcomes in
    let u = c.in_ok-unwrapped.ensures in
    taken_out g.P.Replays.may_give c.args.jobs.now c.take_in.new.outcomes.items c.in_ok-unwrapped.field-0.items e.0
    e.1 u.0 (λ i h. u.1 i (let same = u.0 in omega arith))
