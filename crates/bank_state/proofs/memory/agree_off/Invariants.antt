use Rattle.std.proofs.Common.{◌≡◌, ◌≤◌, ◌-◌, length}
use Rattle.std.specs.List.{range_with_len, list_all}
use Rattle.bank_state.proofs.Bytes.{agrees}
use Rattle.bank_state.proofs.memory.agree_off.Given as goal

abbrev pub invariant-loop-at : goal.invariant-loop-at
invariant-loop-at l = record {
  within : l.at ≤ length l.bytes;
  left : list_all (agrees l.bytes l.stored l.mask) (range_with_len l.at (length l.bytes - l.at))
      ≡ list_all (agrees l.bytes l.stored l.mask) (range_with_len 0 (length l.bytes));
}

abbrev pub decreases-loop-at : goal.decreases-loop-at
decreases-loop-at l = length l.bytes - l.at
