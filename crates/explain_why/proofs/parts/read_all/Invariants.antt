use Rattle.std.proofs.Common.{◌≤◌, ◌-◌, length, take}
use Rattle.explain_why.specs.Taken.{HasTakenAll}
use Rattle.explain_why.proofs.parts.read_all.Given as goal

abbrev pub invariant-loop-at : goal.invariant-loop-at
invariant-loop-at l = record {
  within : l.at ≤ length l.bytes;
  taken : HasTakenAll l.reader (take l.at l.bytes) l.memory.items l.records.items;
}

abbrev pub decreases-loop-at : goal.decreases-loop-at
decreases-loop-at l = length l.bytes - l.at
