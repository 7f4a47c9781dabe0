use Rattle.std.proofs.Common.{◌≡◌, ◌≤◌, ◌<◌, ℕ, take, length, get_or}
use Rattle.lf_codec.specs.Checks.{log_limit}
use Rattle.lf_codec.specs.Trace.{log_len}
use Rattle.lf_codec.proofs.fitting.logs_fit.Given as goal

abbrev pub invariant-loop-item : goal.invariant-loop-item
invariant-loop-item l = record {
  len : length l.counts ≡ 32;
  counted : (log : ℕ) → log < 32 → get_or l.counts log 0 ≡ log_len log (take l.item-index l.records);
  limit : (log : ℕ) → get_or l.counts log 0 ≤ log_limit l.header.version;
  same_limit : l.limit ≡ log_limit l.header.version;
}
