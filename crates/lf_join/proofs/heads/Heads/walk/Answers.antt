use Rattle.std.proofs.Common.{◌≢◌, ◌<◌, ℕ, List, length, All, slice_index, subst, sym, ap, ◌∙◌, arith}
use Rattle.std.proofs.lemmas.List.{length_push}
use Rattle.std.proofs.lemmas.List.Elements.{All-push}
use Rattle.lf_join.specs.Join.{skeleton_lists}
use Rattle.lf_join.specs.Heads.{HeadsWait, IsPath}
use Rattle.lf_join.proofs.Rounds.{room_left, path_more}
use Rattle.lf_join.proofs.Waits.{has_next}
use Rattle.lf_join.proofs.heads.Heads.walk.Goals as goal

pub push-requires : goal.push-requires
push-requires c =
    let inv = c.loop-again.invariant in
    let few = c.requires.few in
    let room = room_left c.loop-again.path.items c.loop-again.log (length c.args.skeletons.now) inv.0.apart inv.1.0
    (subst (λ (xs : List ℕ). (k : ℕ) → k < length xs → slice_index xs k ≢ c.loop-again.log) c.as_slice.ensures.value
    c.in_default.ensures.none) inv.1.1.0 in
    (omega arith, omega (arith, room, few))

pub loop-again-smaller : goal.loop-again-smaller
loop-again-smaller c =
    let inv = c.loop-again.invariant in
    let few = c.requires.few in
    let room = room_left c.loop-again.path.items c.loop-again.log (length c.args.skeletons.now) inv.0.apart inv.1.0
    (subst (λ (xs : List ℕ). (k : ℕ) → k < length xs → slice_index xs k ≢ c.loop-again.log) c.as_slice.ensures.value
    c.in_default.ensures.none) inv.1.1.0 in
    let longer = ap length c.push.ensures.items ∙ length_push c.loop-again.path.items c.loop-again.log in
    omega (arith, room, few, longer)

pub loop-again-preserved : goal.loop-again-preserved
loop-again-preserved c =
    let inv = c.loop-again.invariant in
    let path = c.loop-again.path.items in
    let heads = c.args.self.now in
    let L = skeleton_lists c.args.skeletons.now in
    let n = length c.args.skeletons.now in
    let new : (k : ℕ) → k < length path → slice_index path k ≢ c.loop-again.log =
    subst (λ (xs : List ℕ). (k : ℕ) → k < length xs → slice_index xs k ≢ c.loop-again.log) c.as_slice.ensures.value
    c.in_default.ensures.none in
    let step = c.waits_for-log.ensures.waits in (
      subst (λ (xs : List ℕ). IsPath (HeadsWait L heads.places heads.next) c.args.start xs c.waits_for-log.result)
          (sym c.push.ensures.items)
          (path_more (HeadsWait L heads.places heads.next) c.args.start path c.loop-again.log c.waits_for-log.result
          inv.0 step new),
      (
        subst (λ (xs : List ℕ). All (λ log. log < n) xs) (sym c.push.ensures.items)
            (All-push (λ log. log < n) path c.loop-again.log inv.1.0 inv.1.1.0),
        (c.waits_for-log.ensures.log, has_next L heads.places heads.next c.loop-again.log c.waits_for-log.result step),
      ),
    )
