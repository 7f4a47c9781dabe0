use Rattle.std.proofs.Common.{◌≡◌, ◌≤◌, length, map, take, vec_capacity}
use Rattle.lf_rules.specs.Ring.{entry_of}
use Rattle.lf_logs.proofs.skeleton.skeleton.Given as goal

abbrev pub invariant-loop-item : goal.invariant-loop-item
invariant-loop-item l = record {
  entries : l.entries.items ≡ map entry_of (take l.item-index l.log);
  room : length l.log ≤ vec_capacity l.entries;
}
