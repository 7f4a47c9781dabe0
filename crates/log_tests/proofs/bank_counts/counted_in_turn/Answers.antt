use Rattle.std.proofs.Common.{[], refl}
use Rattle.log_tests.proofs.bank_counts.counted_in_turn.Goals as goal

pub loop-item-init : goal.loop-item-init
loop-item-init c = (c.shape-shape.result, [], c.in-Ok.ensures c.shape-shape.result refl)
