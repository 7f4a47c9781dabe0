use Rattle.std.proofs.Common.{[], get_or, length, ap, ◌∙◌, arith}
use Rattle.std.specs.List.{filter}
use Rattle.lf_stats.proofs.Waits.{waiting_all, waiting_few}
use Rattle.lf_stats.proofs.port.unanswered.Goals as goal

pub returns : goal.returns
returns g c =
    c.count.ensures ∙ ap (λ bs. length (filter (λ b. b) bs)) c.as_slice.ensures
    ∙ waiting_all (get_or (g.L.LogRecords.lists c.args.logs.now) c.args.port []) c.waits_at-waits.result
    c.waits_at-waits.ensures.len c.waits_at-waits.ensures.waits

pub overflow_cast-result : goal.overflow_cast-result
overflow_cast-result g c = omega (
  arith,
  c.count.ensures,
  ap length c.as_slice.ensures,
  waiting_few
      c.as_slice.result.now,
  c.waits_at-waits.ensures.len,
)
