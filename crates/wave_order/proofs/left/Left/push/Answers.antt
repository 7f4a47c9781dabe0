use Rattle.std.proofs.Common.{arith}
use Rattle.std.proofs.lemmas.List.{length-set}
use Rattle.wave_order.proofs.Entries.{comes_behind}
use Rattle.wave_order.proofs.left.Left.push.Goals as goal

pub returns : goal.returns
returns c gone records has =
    let was = c.in_ok-reach.ensures.same gone records has in
    let queues = c.reach.new.self.logs.items in
    let at = c.from-log.result in
    record {
      few = omega (arith, was.few, length-set queues at c.push_back.new.self);
      sized = was.sized;
      each = comes_behind queues at records c.args.item.now c.index_mut.result.now c.push_back.new.self
          c.from-log.ensures c.index_mut.ensures.value (omega (arith, c.in_ok-reach.ensures.reached)) was.each
          c.in_ok-push_back.ensures.items;
      next = was.next;
      counted = was.counted;
      came = was.came;
    }
