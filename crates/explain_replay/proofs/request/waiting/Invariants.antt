use Rattle.std.proofs.Common.{◌≡◌, take}
use Rattle.explain_history.specs.BankOrder.{records_at}
use Rattle.explain_replay.specs.Request.{waiting}
use Rattle.explain_replay.proofs.request.waiting.Given as goal

abbrev pub invariant-loop-place : goal.invariant-loop-place
invariant-loop-place l = l.all.items ≡ waiting (records_at l.records.records (take l.place-index l.places)) l.port l.tag
