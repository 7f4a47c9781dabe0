use Rattle.std.proofs.Common.{◌≡◌, ◌≤◌, length, take, vec_capacity}
use Rattle.lf_rules.specs.Lists.{lists_of}
use Rattle.lf_logs.specs.Places.{records_at}
use Rattle.lf_replay.specs.Lent.{lent}
use Rattle.lf_pool.proofs.job.records_at.Given as goal

abbrev pub invariant-loop-place : goal.invariant-loop-place
invariant-loop-place l = record {
  records : lent l.records.items ≡ records_at (lists_of l.logs) (take l.place-index l.places);
  count : length l.records.items ≡ l.place-index;
  room : length l.places ≤ vec_capacity l.records;
}
