use Rattle.std.proofs.Common.{List, ℕ, sym, subst}
use Rattle.std.proofs.lemmas.Result.{err_from_is_err_and}
use Rattle.trace_early.specs.Kept.{Keeps}
use Rattle.trace_early.proofs.Keeping.{keeps_what_is_put}
use Rattle.trace_early.proofs.chunks.Chunks.put.Goals as goal

pub returns-in_err-number-clause-refused : goal.returns-in_err-number-clause-refused
returns-in_err-number-clause-refused c =
    let p = err_from_is_err_and c.from_residual.result c.from_residual.ensures.1 in
    rw p.1 (λ kept keeps. c.in_err-number.ensures.kept kept
    (subst (λ (chunks : List (List ℕ × ℕ)). Keeps chunks kept) (sym c.self.view_is) keeps))

pub returns-clause-one_more : goal.returns-clause-one_more
returns-clause-one_more c kept keeps =
    keeps_what_is_put c.with_room.new.chunks.items c.in_ok-number.number c.index_mut-chunk.result.now
    c.put-step.new.self c.in_ok-number.ensures.number.0 c.index_mut-chunk.ensures.value c.put-step.ensures.old
    c.put-step.ensures.one_more c.new.result c.put-step.result c.args.item.now c.new.ensures
    c.put-step.ensures.step_in c.put-step.ensures.own kept
    (c.in_ok-number.ensures.kept kept
    (subst (λ (chunks : List (List ℕ × ℕ)). Keeps chunks kept) (sym c.self.view_is) keeps))
