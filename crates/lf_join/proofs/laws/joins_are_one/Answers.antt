use Rattle.lf_join.proofs.OneRing.{least_orders_are_one, stuck_rings_admit_none, stuck_rings_are_one}
use Rattle.lf_join.proofs.laws.joins_are_one.Goals as goal

pub returns : goal.returns
returns c = record { order = least_orders_are_one; none = stuck_rings_admit_none; ring = stuck_rings_are_one }
