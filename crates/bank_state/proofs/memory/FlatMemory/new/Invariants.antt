use Rattle.std.proofs.Common.{◌≡◌, drop}
use Rattle.lf_rules.specs.Address.{flat_memory}
use Rattle.bank_state.specs.Bytes.{flat_of}
use Rattle.bank_state.proofs.memory.FlatMemory.new.Given as goal

abbrev pub invariant-loop-at : goal.invariant-loop-at
invariant-loop-at l = flat_of l.flat ≡ flat_memory (drop l.at l.memory)
