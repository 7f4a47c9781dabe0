use Rattle.std.proofs.Common.{◌≡◌, List, [], ◌∷◌, ◌++◌, length, sym, ap, ◌∙◌, subst, refl, arith, length-append}
use Rattle.std.specs.Prelude.{All}
use Rattle.std.specs.Vec.Iter.{into_iter_items}
use Rattle.std.proofs.lemmas.List.Elements.{All-tail, All-push}
use Rattle.lf_pool.specs.declared.worker.Claimer.{Claimer}
use Rattle.lf_pool.specs.declared.worker.WorkedBy.{WorkedBy}
use Rattle.lf_pool.specs.Worked.{IsClaimer, IsWorked}
use Rattle.std.specs.declared.thread.PromisedHandle.{PromisedHandle}
use Rattle.lf_pool.specs.declared.worker.Worked.{Worked}
use Rattle.lf_pool.proofs.Joined.{IsFor, each_worked}
use Rattle.lf_pool.proofs.pool.run_in.Goals as goal

pub loop-claimer-preserved : goal.loop-claimer-preserved
loop-claimer-preserved g c =
    let at = c.loop-claimer in
    let x = c.in-Some.claimer in
    let Q : PromisedHandle Worked (WorkedBy g.row.P.Denot) → Type 0 =
    λ h. IsFor c.args.jobs.now c.args.shared.now.table_id h.promise in
    let P : Claimer → Type 0 = IsClaimer c.args.shared.now.table_id in
    let steps : into_iter_items at.claimer-iterator ≡ x ∷ into_iter_items c.next.new.self = c.in-Some.ensures.steps.0 in
    let short = ap length steps in
    let long = ap length c.push_reserved.ensures.items in
    let grown = length-append at.handles.items (c.in-Ok.handle ∷ []) in record {
      left = (let was = at.invariant.left in let gone = c.in-Some.ensures.steps.1 in omega arith);
      own = All-tail P x (into_iter_items c.next.new.self) (subst (All P) steps at.invariant.own);
      count = (let was = at.invariant.count in omega arith);
      room = (let was = at.invariant.room in let cap = c.push_reserved.ensures.capacity in omega arith);
      promises = subst (All Q) (sym c.push_reserved.ensures.items)
          (All-push Q at.handles.items c.in-Ok.handle at.invariant.promises (
            ap (λ (p : WorkedBy g.row.P.Denot). p.jobs.now) c.in-Ok.ensures.ok,
            ap
                (λ (p : WorkedBy g.row.P.Denot). p.shared.now.table_id) c.in-Ok.ensures.ok,
          ));
    }

nothing_left : {X : Type 0} (l : List X) → length l ≡ 0 → l ≡ []
nothing_left [] h = refl
nothing_left (x ∷ xs) h = absurd (omega arith)

pub returns-clause-worked : goal.returns-clause-worked
returns-clause-worked g c =
    let at = c.loop-claimer in
    let none = c.in-None.ensures.steps in
    let jobs = c.args.jobs.now in
    let table = c.args.shared.now.table_id in
    let all : List Worked = c.in_ok-all.all.items in
    let items : c.push.new.self.items ≡ all ++ c.work-own.result ∷ [] = c.in_ok-push.ensures.items in
    let count : at.handles.len ≡ length at.handles.items = (let ok = at.handles.ok in omega arith) in
    let same : length all ≡ at.handles.len = (let ok = c.in_ok-all.all.ok in let len = c.in_ok-all.ensures.len in
    omega arith) in
    let was = at.invariant.count in
    let left = at.invariant.left in
    let long = length-append all (c.work-own.result ∷ []) in (
      (ap length items ∙ omega arith),
      subst (All (IsWorked g.P.Replays.may_give jobs table)) (sym items)
          (All-push (IsWorked g.P.Replays.may_give jobs table) all c.work-own.result
          (each_worked g.P.Replays.may_give jobs table _ (λ p r k. k) at.handles.items at.invariant.promises
          at.handles.len all count same c.in_ok-all.ensures.each) c.work-own.ensures),
    )
