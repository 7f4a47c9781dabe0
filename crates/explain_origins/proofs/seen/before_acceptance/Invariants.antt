use Rattle.std.proofs.Common.{◌≡◌, ◌≤◌, false, drop, length}
use Rattle.std.specs.List.{list_any}
use Rattle.explain_history.specs.Touching.{record_at}
use Rattle.explain_origins.specs.Seen.{accepts}
use Rattle.explain_origins.proofs.seen.before_acceptance.Given as goal

abbrev pub invariant-loop-end : goal.invariant-loop-end
invariant-loop-end l = record {
  inside : l.end ≤ length l.before;
  none : list_any (λ at. accepts l.port l.tag (record_at l.records.records at)) (drop l.end l.before) ≡ false;
}

abbrev pub decreases-loop-end : goal.decreases-loop-end
decreases-loop-end l = l.end
