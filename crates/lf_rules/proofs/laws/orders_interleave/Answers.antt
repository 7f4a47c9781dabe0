use Rattle.lf_rules.proofs.Orders.{orders_interleave, orders_take_one}
use Rattle.lf_rules.proofs.laws.orders_interleave.Goals as goal

pub returns-clause-interleave : goal.returns-clause-interleave
returns-clause-interleave c = orders_interleave

pub returns-clause-one : goal.returns-clause-one
returns-clause-one c = orders_take_one
