use Rattle.count_coverage.specs.Coverage.{AreOfBanks}
use Rattle.count_coverage.proofs.coverage.cover_banks.Given as goal

abbrev pub invariant-loop-bank : goal.invariant-loop-bank
invariant-loop-bank g l = AreOfBanks l.shape (g.L.LogRecords.lists l.logs) l.bank l.tallies.items
