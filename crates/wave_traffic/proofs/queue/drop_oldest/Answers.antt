use Rattle.std.proofs.Common.{◌∙◌}
use Rattle.wave_traffic.proofs.Queues.{removed_at, none_removed}
use Rattle.wave_traffic.proofs.queue.drop_oldest.Goals as goal

pub returns-in-Some : goal.returns-in-Some
returns-in-Some c = c.remove.ensures.items ∙ removed_at c.args.queue.now.items c.args.port c.in-Some.at
    (rw c.deref.ensures.value at c.in-Some.ensures)

pub returns-in_default : goal.returns-in_default
returns-in_default c = none_removed c.args.queue.now.items c.args.port
    (rw c.deref.ensures.value at c.in_default.ensures)
