use Rattle.std.proofs.Common.{◌≡◌, ℕ, ◌<◌, None}
use Rattle.model_plain.specs.Plain.{busy_of}
use Rattle.model_plain.proofs.busy.none_busy.Given as goal

abbrev pub invariant-loop-tag : goal.invariant-loop-tag
invariant-loop-tag l = (k : ℕ) → k < l.tag → busy_of l.busy l.port k ≡ None
