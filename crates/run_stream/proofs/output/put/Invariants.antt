-- No write failed, and what is gone from the rest went out.
use Rattle.std.proofs.Common.{◌≡◌, ◌++◌, List, ℕ, length}
use Rattle.run_stream.specs.Account.{WentOut}
use Rattle.run_stream.specs.Counted.{failures_of, account_of}
use Rattle.run_stream.proofs.output.put.Given as goal

abbrev pub invariant-loop-rest : goal.invariant-loop-rest
invariant-loop-rest g l = record {
  failures : failures_of l.writer ≡ 0;
  done : List ℕ;
  split : l.initial.rest ≡ done ++ l.rest;
  out : WentOut (account_of g.W.Write.contents l.initial.writer) (account_of g.W.Write.contents l.writer) done;
}

abbrev pub decreases-loop-rest : goal.decreases-loop-rest
decreases-loop-rest g l = length l.rest
