use Rattle.std.proofs.Common.{◌≡◌, drop}
use Rattle.explain_origins.specs.Origins.{steps, standing}
use Rattle.explain_origins.specs.Requests.{none_waits, queue_at}
use Rattle.explain_origins.proofs.ToCome.{told_and_to_come}
use Rattle.explain_origins.proofs.standing.origins_standing.Given as goal

abbrev pub invariant-loop-at : goal.invariant-loop-at
invariant-loop-at l =
    told_and_to_come l.shape l.part l.open.items
    (steps l.shape (queue_at l.requests) l.records.records (drop l.at-index l.before))
    ≡ standing l.shape l.part (steps l.shape none_waits l.records.records l.before)
