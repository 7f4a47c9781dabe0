use Rattle.std.proofs.Common.{◌≡◌, ℕ, ◌<◌, [], length, get_or, Option}
use Rattle.count_usage.specs.declared.usage.BankUse.{BankUse}
use Rattle.count_usage.specs.Usage.{IsBankUse, highest_tag}
use Rattle.count_usage.proofs.usage.usage_of.Given as goal

abbrev pub invariant-loop-bank : goal.invariant-loop-bank
invariant-loop-bank g l = record {
  each_bank : length l.banks.items ≡ l.bank;
  bank : (b : ℕ) (d : BankUse) → b < l.bank
      → IsBankUse l.shape (g.L.LogRecords.lists l.logs) b (get_or l.banks.items b d);
}

abbrev pub invariant-loop-port : goal.invariant-loop-port
invariant-loop-port g l = record {
  each_port : length l.tags.items ≡ l.port;
  port : (p : ℕ) (d : Option ℕ) → p < l.port
      → get_or l.tags.items p d ≡ highest_tag (get_or (g.L.LogRecords.lists l.logs) p []);
}
