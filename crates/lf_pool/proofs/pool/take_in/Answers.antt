use Rattle.std.proofs.Common.{◌≡◌, [], ◌∷◌, length, map, sym, ap, ◌∙◌, subst, arith, append_assoc}
use Rattle.std.specs.Prelude.{All}
use Rattle.std.specs.Vec.Iter.{into_iter_items}
use Rattle.std.proofs.lemmas.List.Elements.{All-head, All-tail}
use Rattle.atomic_table.specs.Table.{Joins}
use Rattle.lf_pool.specs.declared.worker.Worked.{Worked}
use Rattle.lf_pool.specs.declared.rule.View.TheVariants.{Spent}
use Rattle.lf_pool.specs.Rule.{AreClaimed, Mine, with_worker}
use Rattle.lf_pool.specs.Worked.{IsWorked, claims_of, entry_of, put_all}
use Rattle.lf_pool.proofs.Steps.{takes}
use Rattle.lf_pool.proofs.Placing.{put_each_snoc, keeper_after}
use Rattle.lf_pool.proofs.pool.take_in.Goals as goal

pub join_seat-requires : goal.join_seat-requires
join_seat-requires g c =
    let at = c.loop-one in
    let shared = c.args.shared.now in
    let x = c.in-Some.one in
    let P : Worked → Type 0 = IsWorked g.P.Replays.may_give c.args.jobs.now shared.table_id in
    let steps : into_iter_items at.one-iterator ≡ x ∷ into_iter_items c.next.new.self = c.in-Some.ensures.steps.0 in
    let own : IsWorked g.P.Replays.may_give c.args.jobs.now shared.table_id x =
    All-head P x (into_iter_items c.next.new.self) (subst (All P) steps at.invariant.mine) in (
      at.invariant.table,
      own.own,
      ap (λ (m : Mine). m.1) own.view,
      c.requires.table.1,
      subst
          (λ (z : Mine × Mine). Joins (AreClaimed shared.key) at.keeper.id z.0.0 x.seat.id z.1.0
          (with_worker z.0.0 z.1.0) Spent)
          (λ i. (sym at.invariant.made i, sym own.view i))
          (takes shared.key at.keeper.id c.args.made (map entry_of at.yielded) x.seat.id x.number (claims_of x)),
    )

pub loop-one-preserved : goal.loop-one-preserved
loop-one-preserved g c =
    let at = c.loop-one in
    let x = c.in-Some.one in
    let shared = c.args.shared.now in
    let P : Worked → Type 0 = IsWorked g.P.Replays.may_give c.args.jobs.now shared.table_id in
    let steps : into_iter_items at.one-iterator ≡ x ∷ into_iter_items c.next.new.self = c.in-Some.ensures.steps.0 in
    let own : IsWorked g.P.Replays.may_give c.args.jobs.now shared.table_id x =
    All-head P x (into_iter_items c.next.new.self) (subst (All P) steps at.invariant.mine) in record {
      rest = append_assoc at.yielded (x ∷ []) _ ∙ rw (← steps) at.invariant.rest;
      left = (let was = at.invariant.left in let gone = c.in-Some.ensures.steps.1 in let short = ap length steps in
          omega arith);
      mine = All-tail P x (into_iter_items c.next.new.self) (subst (All P) steps at.invariant.mine);
      table = c.join_seat.ensures.0 ∙ at.invariant.table;
      made = keeper_after c.args.made at.yielded x at.keeper.me x.seat.me _ at.invariant.made own.view
          c.join_seat.ensures.2;
      placed = c.put.ensures ∙ (ap (λ l. put_all l x.done.items) at.invariant.placed
          ∙ sym (put_each_snoc c.args.outcomes.now.items at.yielded x));
    }
