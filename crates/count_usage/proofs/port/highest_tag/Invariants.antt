use Rattle.std.proofs.Common.{◌≡◌, [], get_or, take}
use Rattle.count_usage.specs.Usage.{highest_tag}
use Rattle.count_usage.proofs.port.highest_tag.Given as goal

abbrev pub invariant-loop-at : goal.invariant-loop-at
invariant-loop-at g l = l.highest ≡ highest_tag (take l.at (get_or (g.L.LogRecords.lists l.logs) l.port []))
