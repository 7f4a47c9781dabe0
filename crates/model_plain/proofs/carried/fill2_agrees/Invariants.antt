use Rattle.std.proofs.Common.{◌≡◌, ℕ, ◌<◌, true}
use Rattle.lf_rules.specs.Address.{sub_block, part_at, block_bytes, agree_off}
use Rattle.lf_rules.specs.Table.{store_bytes}
use Rattle.bank_state.specs.Bytes.{flat_of}
use Rattle.model_plain.specs.Plain.{slice_of}
use Rattle.model_plain.proofs.carried.fill2_agrees.Given as goal

abbrev pub invariant-loop-place : goal.invariant-loop-place
invariant-loop-place l = (k : ℕ) → k < l.place →
    agree_off l.shape.block (part_at l.shape.block l.bytes.items k)
    (block_bytes l.shape (flat_of l.memory) (sub_block l.shape l.second k))
    (store_bytes (slice_of l.slice).waiting (sub_block l.shape l.second k)) ≡ true
