use Rattle.std.proofs.Common.{◌≡◌, ◌<◌, drop}
use Rattle.std.specs.Prelude.{IfSome}
use Rattle.explain_history.specs.Waiting.{waiting_from, waiting_request}
use Rattle.explain_history.proofs.waiting.waiting_request.Given as goal

abbrev pub invariant-loop-place : goal.invariant-loop-place
invariant-loop-place l = record {
  inside : IfSome l.waiting (λ place. place < l.place);
  request : waiting_from l.port l.tag l.place l.waiting (drop l.place l.records.records)
      ≡ waiting_request l.port l.tag l.records.records;
}
