use Rattle.std.proofs.Common.{◌≡◌, ℕ, ◌<◌, [], length, get_or}
use Rattle.lf_stats.specs.declared.counts.BankStats.{BankStats}
use Rattle.lf_stats.specs.Statistics.{unanswered}
use Rattle.lf_stats.specs.Answer.{IsBankStats}
use Rattle.lf_stats.proofs.statistics.stats_of.Given as goal

abbrev pub invariant-loop-bank : goal.invariant-loop-bank
invariant-loop-bank g l = record {
  each_bank : length l.banks.items ≡ l.bank;
  bank : (b : ℕ) (d : BankStats) → b < l.bank
      → IsBankStats l.shape (g.L.LogRecords.lists l.logs) b (get_or l.banks.items b d);
}

abbrev pub invariant-loop-port : goal.invariant-loop-port
invariant-loop-port g l = record {
  each_port : length l.ports.items ≡ l.port;
  port : (p d : ℕ) → p < l.port → get_or l.ports.items p d ≡ unanswered (get_or (g.L.LogRecords.lists l.logs) p []);
}
