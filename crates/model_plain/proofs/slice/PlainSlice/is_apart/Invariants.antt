use Rattle.std.proofs.Common.{◌≡◌, ℕ, ◌<◌, true}
use Rattle.model_plain.specs.Plain.{slice_of}
use Rattle.lf_rules.specs.Table.{is_apart}
use Rattle.model_plain.proofs.slice.PlainSlice.is_apart.Given as goal

abbrev pub invariant-loop-place : goal.invariant-loop-place
invariant-loop-place l = (k : ℕ) → k < l.place → is_apart l.shape (slice_of l.self) l.second k ≡ true
