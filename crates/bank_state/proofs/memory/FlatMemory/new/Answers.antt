use Rattle.std.proofs.Common.{ap, ◌∙◌, slice_index, arith}
use Rattle.bank_state.proofs.Blocks.{whole_step}
use Rattle.bank_state.proofs.memory.FlatMemory.new.Goals as goal

pub loop-at-preserved : goal.loop-at-preserved
loop-at-preserved c =
    whole_step c.args.memory.now c.loop-at.at _ _ _ _ (omega arith) (omega arith) c.index-memory-at.is
    c.loop-at.invariant (c.padded.ensures ∙ ap slice_index c.deref.ensures.0) c.in_ok-set.ensures.ok
