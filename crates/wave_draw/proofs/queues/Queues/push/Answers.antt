use Rattle.std.proofs.Common.{refl, arith}
use Rattle.wave_draw.proofs.Waiting.{one_comes}
use Rattle.wave_draw.proofs.queues.Queues.push.Goals as goal

pub returns : goal.returns
returns c records are =
    one_comes c.reach.new.self.logs.items c.args.item.log c.from-log.result c.from-log.ensures records
    c.index_mut.result.now c.push_back.new.self c.index_mut.ensures.value
    (omega (arith, c.in_ok-reach.ensures.reached)) (c.in_ok-reach.ensures.same records are) c.args.item refl
    c.in_ok-push_back.ensures.items
