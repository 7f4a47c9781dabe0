use Rattle.lf_verdict.proofs.CommonOrder.{in_order, in_order_for}
use Rattle.lf_verdict.proofs.laws.collected.collected_logs_are_in_order.Goals as goal

pub returns-clause-shape : goal.returns-clause-shape
returns-clause-shape c = in_order c.collected_logs_are_free.ensures c.one_trace.ensures

pub returns-clause-text : goal.returns-clause-text
returns-clause-text c = in_order_for c.collected_logs_are_free.ensures c.one_trace.ensures
