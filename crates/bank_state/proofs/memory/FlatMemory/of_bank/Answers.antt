use Rattle.std.proofs.Common.{arith, ◌∙◌, sym, ap, slice_index}
use Rattle.bank_state.proofs.Blocks.{memory_step, memory_passed}
use Rattle.bank_state.proofs.memory.FlatMemory.of_bank.Goals as goal

pub loop-left-preserved-in-Continue-1 : goal.loop-left-preserved-in-Continue-1
loop-left-preserved-in-Continue-1 c = record {
  within = omega arith;
  held =
      memory_step c.args.shape.now c.args.bank c.args.memory.now c.loop-left.left _ _ _ _
      (omega arith) c.loop-left.invariant.within c.index-memory-left.is c.loop-left.invariant.held
      (sym c.bank_of.ensures ∙ c.if-bank_of-bank.true)
      (c.padded.ensures ∙ ap slice_index c.deref.ensures.0) c.in_ok-set.ensures.ok;
}

pub loop-left-preserved : goal.loop-left-preserved
loop-left-preserved c = record {
  within = omega arith;
  held =
      memory_passed c.args.shape.now c.args.bank c.args.memory.now c.loop-left.left c.index-memory-left.result _
      (omega arith) c.loop-left.invariant.within c.index-memory-left.is c.loop-left.invariant.held
      (λ e. c.if-bank_of-bank.false (c.bank_of.ensures ∙ e));
}
