use Rattle.std.proofs.Common.{rules, ◌∙◌, ap}
use Rattle.lf_rules.specs.Order.{log_at}
use Rattle.verdict_tests.proofs.EmptyLists.{nothing_at, as_many, none_long, in_order}
use Rattle.verdict_tests.proofs.workers.no_events.Goals as goal

pub returns : goal.returns
returns c =
    let logs = c.in_ok-logs.ensures in
    let orders = c.in_ok-orders.ensures in
    record {
      shape = search rules;
      logs = as_many c.in_ok-logs.logs 5 logs;
      short = none_long c.in_ok-logs.logs 5 logs;
      fit = λ log. rw (ap (λ lists. log_at lists log) logs ∙ nothing_at 5 log) tt;
      orders = as_many c.in_ok-orders.orders 4 orders;
      ordered = λ bank below. rw (ap (λ lists. log_at lists bank) orders ∙ nothing_at 4 bank) (rw logs (in_order bank));
    }
