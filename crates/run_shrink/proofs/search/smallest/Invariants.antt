use Rattle.std.proofs.Common.{ℕ, List, length}
use Rattle.run_shrink.specs.Candidate.{IsKept, IsNoLargerThan}
use Rattle.run_shrink.specs.Told.{WasTold, TellOf}
use Rattle.run_shrink.proofs.search.smallest.Given as goal

abbrev pub invariant-loop-checks : goal.invariant-loop-checks
invariant-loop-checks g l = record {
  kept : IsKept l.shape l.wanted l.best;
  smaller : IsNoLargerThan l.fn.first l.best;
  told : (calls : List (ℕ × ℕ)) × WasTold g.O.Observer.tells l.fn.observer calls l.observer
      × TellOf (length l.fn.first.records.items) calls l.checks (length l.best.records.items);
}
