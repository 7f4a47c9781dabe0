use Rattle.std.proofs.Common.{◌≡◌, [], drop}
use Rattle.explain_origins.specs.Freed.{last_end}
use Rattle.explain_origins.specs.Origins.{steps}
use Rattle.explain_origins.specs.Requests.{none_waits, queue_at}
use Rattle.explain_origins.proofs.freed.last_end.Given as goal

abbrev pub invariant-loop-at : goal.invariant-loop-at
invariant-loop-at l =
    last_end l.shape l.part l.open.items l.last.items
    (steps l.shape (queue_at l.requests) l.records.records (drop l.at-index l.before))
    ≡ last_end l.shape l.part [] [] (steps l.shape none_waits l.records.records l.before)
