use Rattle.std.proofs.Common.{◌≡◌, []}
use Rattle.std.specs.Prelude.{replicate}
use Rattle.lf_join.specs.Join.{skeleton_lists}
use Rattle.lf_verdict.proofs.session.standing.new.empty_logs.Given as goal

abbrev pub invariant-loop : goal.invariant-loop
invariant-loop l = skeleton_lists l.logs.items ≡ replicate l.counter []
