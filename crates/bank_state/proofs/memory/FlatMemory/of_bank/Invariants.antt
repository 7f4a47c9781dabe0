use Rattle.std.proofs.Common.{◌≡◌, drop, length, ◌≤◌}
use Rattle.lf_rules.specs.Address.{flat_memory}
use Rattle.bank_state.specs.Bytes.{flat_of, bank_part}
use Rattle.bank_state.proofs.memory.FlatMemory.of_bank.Given as goal

abbrev pub invariant-loop-left : goal.invariant-loop-left
invariant-loop-left l = record {
  within : l.left ≤ length l.memory;
  held : flat_of l.flat
      ≡ bank_part l.shape l.bank (flat_memory (drop l.left l.memory));
}

abbrev pub decreases-loop-left : goal.decreases-loop-left
decreases-loop-left l = l.left
