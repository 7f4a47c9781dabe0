use Rattle.std.proofs.Common.{◌≡◌, ◌+◌, ◌<◌, [], ◌∷◌, ◌++◌, length, sym, ap, ◌∙◌, arith}
use Rattle.std.specs.Vec.Iter.{into_iter_items}
use Rattle.std.proofs.lemmas.List.{append_assoc, length-map}
use Rattle.lf_logs.proofs.Splitting.{length-parts_of, placed, All-between}
use Rattle.lf_logs.proofs.logs.split.Goals as goal

pub index_mut-requires : goal.index_mut-requires
index_mut-requires c =
    let rest = c.in-Some.ensures.steps in
    let split = ap (λ xs. c.loop-item.yielded ++ xs) (sym rest.0) ∙ c.loop-item.invariant.left in
    let inside : c.in-Some.item.log < c.args.ports + c.args.banks =
    All-between (λ r. r.log < c.args.ports + c.args.banks) c.loop-item.yielded c.in-Some.item _ _ split
    c.requires.logs in
    let long : length c.loop-item.logs.items ≡ c.args.ports + c.args.banks =
    sym (length-map c.loop-item.logs.items (λ v. v.items)) ∙ ap length c.loop-item.invariant.placed
    ∙ length-parts_of (λ r. r.log) (c.args.ports + c.args.banks) c.loop-item.yielded in
    omega (arith, c.loop-item.logs.ok.0)

pub loop-item-preserved : goal.loop-item-preserved
loop-item-preserved c =
    let rest = c.in-Some.ensures.steps in
    let split = ap (λ xs. c.loop-item.yielded ++ xs) (sym rest.0) ∙ c.loop-item.invariant.left in
    let inside : c.in-Some.item.log < c.args.ports + c.args.banks =
    All-between (λ r. r.log < c.args.ports + c.args.banks) c.loop-item.yielded c.in-Some.item _ _ split
    c.requires.logs in
    let pushed : c.push.new.self.items ≡ c.index_mut.result.now.items ++ c.in-Some.item ∷ [] =
    c.in_ok-push.ensures.items in
    record {
      can_next = tt;
      finite = tt;
      placed =
          placed (λ r. r.log) c.loop-item.logs.items (c.args.ports + c.args.banks) c.loop-item.yielded c.in-Some.item
          c.from-log.result
          c.index_mut.result.now c.push.new.self c.from-log.ensures inside c.loop-item.invariant.placed
          c.index_mut.ensures.value pushed;
      left = append_assoc c.loop-item.yielded (c.in-Some.item ∷ []) (into_iter_items c.next.new.self) ∙ split;
    }
