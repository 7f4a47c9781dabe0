use Rattle.std.proofs.Common.{◌≡◌, ◌≤◌, ◌-◌, drop, length, bytes_eq}
use Rattle.std.specs.List.{flat_map, range_with_len}
use Rattle.lf_rules.specs.Address.{wide_masked}
use Rattle.bank_state.specs.Bytes.{flat_of}
use Rattle.bank_state.proofs.Masked.{part_masked}
use Rattle.bank_state.proofs.memory.FlatMemory.wide_carries.Given as goal

abbrev pub invariant-loop-place : goal.invariant-loop-place
invariant-loop-place l = record {
  within : l.end ≤ length l.bytes.items;
  left : bytes_eq l.bytes.items (wide_masked l.shape (flat_of l.self) l.second l.masks)
      ≡ bytes_eq (drop l.end l.bytes.items) (flat_map (part_masked l.shape (flat_of l.self) l.second l.masks)
      (range_with_len l.place (l.shape.factor - l.place)));
}
