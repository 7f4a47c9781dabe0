use Rattle.std.proofs.Common.{not, ◌==◌}
use Rattle.bank_state.proofs.Moved.{AreMoved}
use Rattle.bank_state.proofs.lists.drop_block.Given as goal

abbrev pub invariant-loop-at : goal.invariant-loop-at
invariant-loop-at l = AreMoved (λ b. not (b == l.block)) l.fn.blocks.items l.blocks.items l.at l.kept
