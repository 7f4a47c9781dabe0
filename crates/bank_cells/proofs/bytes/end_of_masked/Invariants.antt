use Rattle.std.proofs.Common.{◌≡◌, ℕ, List, ◌++◌, ◌≤◌, drop, length, slice_index, bytes_eq}
use Rattle.bank_state.specs.Bytes.{bytes_under}
use Rattle.bank_state.proofs.Masked.{IsBelow}
use Rattle.bank_cells.proofs.bytes.end_of_masked.Given as goal

abbrev pub invariant-loop-rest : goal.invariant-loop-rest
invariant-loop-rest l = record {
  within : l.at ≤ length l.bytes;
  below : IsBelow l.rest l.size;
  left : (more : List ℕ) →
      bytes_eq (drop l.from l.bytes) (bytes_under (slice_index l.stored) l.size l.fn.mask.0 ++ more)
      ≡ bytes_eq (drop l.at l.bytes) (bytes_under (slice_index l.stored) l.size l.rest ++ more);
}

abbrev pub decreases-loop-rest : goal.decreases-loop-rest
decreases-loop-rest l = l.rest
