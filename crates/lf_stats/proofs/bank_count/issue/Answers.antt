use Rattle.std.proofs.Common.{◌≡◌, ℕ, List, ◌<◌, [], ◌∷◌, ◌++◌, cond, eqb, length, sym, ap, ◌∙◌, arith}
use Rattle.lf_stats.specs.Tally.{queue_in}
use Rattle.lf_stats.proofs.Queues.{queue_here, queue_set, at_own}
use Rattle.lf_stats.proofs.bank_count.issue.Goals as goal

pub returns-clause-queues : goal.returns-clause-queues
returns-clause-queues c p =
    let queues = c.args.queues.now.items in
    let inside : c.from.result < length queues = omega (arith, c.requires, c.from.ensures) in
    let here = queue_here queues c.from.result c.index_mut.result.now inside c.index_mut.ensures.value in
    let was : c.push_back.new.self.items ≡ c.index_mut.result.now.items ++ c.args.block ∷ [] =
    c.in_ok-push_back.ensures.items in
    let pushed = ◌∙◌ {A = List ℕ} was (ap (λ (xs : List ℕ). xs ++ c.args.block ∷ []) (sym here)) in
    queue_set queues c.from.result c.push_back.new.self p inside
    ∙ at_own queues c.from.result p (λ xs. xs ++ c.args.block ∷ []) c.push_back.new.self.items pushed
    ∙ ap (λ n. cond (eqb n p) (queue_in queues p ++ c.args.block ∷ []) (queue_in queues p)) c.from.ensures
