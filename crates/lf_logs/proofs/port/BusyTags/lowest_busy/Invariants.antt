use Rattle.std.proofs.Common.{◌≡◌, ℕ, ◌<◌, None, slice_index_or}
use Rattle.lf_logs.proofs.port.BusyTags.lowest_busy.Given as goal

abbrev pub invariant-loop-tag : goal.invariant-loop-tag
invariant-loop-tag l = (t : ℕ) → t < l.tag → slice_index_or l.self.owed_by t None ≡ None
