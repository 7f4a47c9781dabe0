use Rattle.std.proofs.Common.{arith}
use Rattle.lf_replay.proofs.AtCells.{more_masks}
use Rattle.lf_replay.proofs.seen.masks_in.Goals as goal

pub loop-place-preserved : goal.loop-place-preserved
loop-place-preserved c = record {
  read = more_masks c.args.shape.now c.args.cells.now c.args.second c.loop-place.place c.sub_block.result
      c.dirty_at-dirty.result c.push.ensures.items c.loop-place.invariant.read c.dirty_at-dirty.ensures
      c.sub_block.ensures;
  count = omega arith;
}
