use Rattle.std.proofs.Common.{◌≡◌, ℕ, length}
use Rattle.std.specs.List.{All}
use Rattle.lf_rules.specs.State.{empty_slice}
use Rattle.model_plain.specs.Plain.{IsSliceFramed, slices_of}
use Rattle.model_plain.proofs.machine.new_slices.Given as goal

abbrev pub invariant-loop : goal.invariant-loop
invariant-loop l = record {
  count : length l.slices.items ≡ l.counter;
  framed : All (IsSliceFramed l.shape)
      l.slices.items;
  empty : (bank : ℕ) → slices_of l.slices.items bank ≡ empty_slice;
}
