use Rattle.std.proofs.Common.{List, length, map, ap, ◌∙◌, sym, subst, arith, ◌∷◌, []}
use Rattle.std.proofs.lemmas.List.{length-append}
use Rattle.wave_order.proofs.Entries.{AreOf, Queue, log_more}
use Rattle.wave_order.proofs.left.Left.reach.Goals as goal

pub loop-self-preserved : goal.loop-self-preserved
loop-self-preserved c gone records has =
    let was = c.loop-self.invariant gone records has in
    let queues = c.loop-self.self.logs.items in
    let more = c.in_ok-push.ensures.items in
    record {
      few = omega (
        arith,
        ap length more ∙ length-append queues (c.new.result ∷ []),
        c.loop-self-test.true,
        c.requires,
        c.len.ensures,
      );
      sized = was.sized;
      each = subst (λ (qs : List Queue). AreOf (map (λ q. q.items) qs) records) (sym more)
          (log_more queues c.new.result records c.new.ensures.items was.each);
      next = was.next;
      counted = was.counted;
      came = was.came;
    }
