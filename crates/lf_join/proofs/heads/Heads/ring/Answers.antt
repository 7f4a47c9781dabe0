use Rattle.std.proofs.Common.{◌≡◌, ◌<◌, ◌≤◌, ◌-◌, ◌++◌, ◌^◌, ℕ, List, length, take, drop, map, slice_index, All}
use Rattle.std.proofs.Common.{subst, sym, ap, ◌∙◌}
use Rattle.std.proofs.lemmas.List.{take_rest}
use Rattle.std.proofs.lemmas.List.Elements.{All-drop}
use Rattle.lf_join.specs.Join.{skeleton_lists}
use Rattle.lf_join.specs.Heads.{HeadsWait, knot_of}
use Rattle.lf_join.proofs.Rounds.{round_of}
use Rattle.lf_join.proofs.Waits.{path_fits}
use Rattle.lf_join.proofs.heads.Heads.ring.Goals as goal

pub from_lowest-requires-clause-logs : goal.from_lowest-requires-clause-logs
from_lowest-requires-clause-logs c =
    let heads = c.args.self.now in
    let path = c.walk-path.result.0.items in
    let again = c.walk-path.result.1 in
    let Fits : ℕ → Type 0 = λ log. (log < 32) × (slice_index heads.places log < 2 ^ 32) in
    let is : take (length c.as_slice.result.now - again) (drop again c.as_slice.result.now) ≡ drop again path =
    take_rest c.as_slice.result.now again ∙ ap (drop again) c.as_slice.ensures.value in
    subst (λ (xs : List ℕ). All Fits xs) (sym is)
    (All-drop Fits again path
    (path_fits c.args.skeletons.now heads.places heads.next path (slice_index path again) c.requires.few
    c.requires.short c.walk-path.ensures.path.chain c.walk-path.ensures.logs))

pub returns : goal.returns
returns c =
    let heads = c.args.self.now in
    let L = skeleton_lists c.args.skeletons.now in
    let path = c.walk-path.result.0.items in
    let again = c.walk-path.result.1 in
    let is : take (length c.as_slice.result.now - again) (drop again c.as_slice.result.now) ≡ drop again path =
    take_rest c.as_slice.result.now again ∙ ap (drop again) c.as_slice.ensures.value in
    let told = c.from_lowest.ensures in
    let lowest = told.0 in (
      drop lowest (drop again path) ++ take lowest (drop again path),
      round_of (HeadsWait L heads.places heads.next) c.args.start path again lowest c.walk-path.ensures.path
          c.walk-path.ensures.again
          (subst (λ (xs : List ℕ). lowest < length xs) is told.1)
          (subst (λ (xs : List ℕ). (k : ℕ) → k < length xs → slice_index xs lowest ≤ slice_index xs k) is told.2),
      subst (λ (xs : List ℕ). c.from_lowest.result.items ≡ map (knot_of heads.places)
          (drop lowest xs ++ take lowest xs)) is told.3,
    )
