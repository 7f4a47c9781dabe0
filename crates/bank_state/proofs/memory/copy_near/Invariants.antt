use Rattle.std.proofs.Common.{◌≡◌, ◌++◌}
use Rattle.bank_state.specs.Bytes.{flat_of}
use Rattle.bank_state.proofs.memory.copy_near.Given as goal

abbrev pub invariant-loop-block : goal.invariant-loop-block
invariant-loop-block l = flat_of (l.near ++ l.far.entries) ≡ flat_of (l.initial.near ++ l.far.entries)
