use Rattle.std.proofs.Common.{◌≡◌, length, take}
use Rattle.trace_views.specs.Views.{masks_of}
use Rattle.count_coverage.specs.Kinds.{dirty_blocks}
use Rattle.count_coverage.proofs.reach.dirty_blocks.Given as goal

abbrev pub invariant-loop-place : goal.invariant-loop-place
invariant-loop-place l = record {
  dirty : l.dirty ≡ dirty_blocks (take l.place (masks_of l.masks).items);
  some : l.place-end ≡ length (masks_of l.masks).items;
}
