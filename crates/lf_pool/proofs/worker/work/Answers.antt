use Rattle.std.proofs.Common.{◌≡◌, ◌+◌, ◌∙◌, ◌∷◌, [], ◌++◌, ℕ, map, refl, sym, ap, subst, arith}
use Rattle.std.specs.Prelude.{All, Any}
use Rattle.lf_rules.specs.declared.outcome.Outcome.{Outcome}
use mathlib.Core.List.{map-append}
use Rattle.std.proofs.lemmas.List.Elements.{All-push}
use Rattle.lf_pool.specs.declared.rule.View.TheVariants.{Worker}
use Rattle.lf_pool.specs.Worked.{number_of, IsDone}
use Rattle.lf_pool.proofs.Work.{any_last}
use Rattle.lf_pool.proofs.worker.work.Goals as goal

pub jobs-preserved : goal.jobs-preserved
jobs-preserved g c =
    let at = c.jobs in
    let jobs = c.args.jobs.now in
    let p : ℕ × Outcome = (c.claim-next.result, c.replay.result) in
    let items : c.push_reserved.new.self.items ≡ at.done.items ++ p ∷ [] =
    c.push_reserved.ensures.items ∙ ap (λ xs. xs ++ p ∷ []) c.reserve.ensures.items in
    let names : map number_of c.push_reserved.new.self.items ≡ map number_of at.done.items ++ c.claim-next.result
    ∷ [] = ap (map number_of) items ∙ map-append number_of at.done.items (p ∷ []) in
    let kept : map number_of c.reserve.new.self.items ≡ map number_of at.done.items =
    ap (map number_of) c.reserve.ensures.items in
    record {
      own = c.claim-next.ensures.table ∙ at.invariant.own;
      view = c.claim-next.ensures.seat ∙ (ap (λ xs. (
        Worker c.args.claimer.number (xs ++ c.claim-next.result ∷ []),
        [],
      )) kept ∙ ap (λ xs. (Worker c.args.claimer.number xs, [])) (sym names));
      done = subst (All (IsDone g.P.Replays.may_give jobs)) (sym items)
          (All-push (IsDone g.P.Replays.may_give jobs) at.done.items p at.invariant.done
          ((let b = c.if-next-count.false in omega arith), c.replay.ensures));
      low = λ _. subst (λ xs. Any (λ (q : ℕ × Outcome). q.0 + 1 ≡ c.claim-next.result + 1) xs) (sym items)
          (any_last at.done.items p (c.claim-next.result + 1) refl);
    }
