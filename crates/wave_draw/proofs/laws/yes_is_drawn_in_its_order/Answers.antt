use Rattle.wave_draw.proofs.Yes.{orders_take_in_order, yes_in_its_order}
use Rattle.wave_draw.proofs.laws.yes_is_drawn_in_its_order.Goals as goal

pub returns-clause-takes : goal.returns-clause-takes
returns-clause-takes c = orders_take_in_order

pub returns-clause-wave : goal.returns-clause-wave
returns-clause-wave c = yes_in_its_order
