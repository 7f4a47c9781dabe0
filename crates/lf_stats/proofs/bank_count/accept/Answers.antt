use Rattle.std.proofs.Common.{◌<◌, drop, cond, eqb, length, sym, ap, ◌∙◌, arith}
use Rattle.lf_stats.specs.Tally.{queue_in}
use Rattle.lf_stats.proofs.Queues.{queue_here, queue_set, at_own}
use Rattle.lf_stats.proofs.bank_count.accept.Goals as goal

pub returns-clause-queues : goal.returns-clause-queues
returns-clause-queues c p =
    let queues = c.args.queues.now.items in
    let inside : c.from.result < length queues = omega (arith, c.requires, c.from.ensures) in
    let popped = c.pop_front.ensures.rest
    ∙ ap (drop 1) (sym (queue_here queues c.from.result c.index_mut.result.now inside c.index_mut.ensures.value)) in
    queue_set queues c.from.result c.pop_front.new.self p inside
    ∙ at_own queues c.from.result p (drop 1) c.pop_front.new.self.items popped
    ∙ ap (λ n. cond (eqb n p) (drop 1 (queue_in queues p)) (queue_in queues p)) c.from.ensures
