use Rattle.std.proofs.Common.{◌*◌, ◌≤◌, ◌^◌, length, arith}
use Rattle.lf_verdict.proofs.Skeletons.{order_short}
use Rattle.lf_verdict.proofs.pool.judge.jobs_verdict.Goals as goal

pub overflow_cast-result : goal.overflow_cast-result
overflow_cast-result c =
    let logs = c.args.jobs.now.logs in
    let ready = c.requires.ready in
    let least = c.in-Ok.ensures.order.least in
    let few : length logs.items ≤ 32 = omega (arith, ready.logs, ready.shape.ports.1, ready.shape.banks.1) in
    let short : length c.in-Ok.order.items ≤ 32 * 2 ^ 24 =
    order_short logs c.in-Ok.order.items least.is_order.entries 32 (2 ^ 24) few ready.short least.is_order.taken in
    omega (arith, c.len.ensures)
