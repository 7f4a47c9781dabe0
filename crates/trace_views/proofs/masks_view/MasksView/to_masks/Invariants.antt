use Rattle.std.proofs.Common.{◌≡◌, length, take}
use Rattle.trace_views.specs.Views.{masks_of}
use Rattle.trace_views.proofs.masks_view.MasksView.to_masks.Given as goal

abbrev pub invariant-loop-place : goal.invariant-loop-place
invariant-loop-place l = record {
  items : l.masks.items ≡ take l.place (masks_of l.self).items;
  some : l.place-end ≡ length (masks_of l.self).items;
}
