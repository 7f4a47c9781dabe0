-- What the statistics of a trace are.
use Rattle.std.specs.Prelude.{◌≡◌, ℕ, ◌<◌, List, [], length, slice_index_or, slice_index}
use Rattle.lf_rules.specs.declared.shape.Shape.{Shape}
use Rattle.lf_rules.specs.declared.event.Record.{Record}
use Rattle.lf_rules.specs.Numbers.{IsNumbered}
use Rattle.lf_stats.specs.declared.counts.BankStats.{BankStats}
use Rattle.lf_stats.specs.declared.counts.Stats.{Stats}
use Rattle.lf_stats.specs.Statistics.{bank_stats, unanswered}

-- the counts over the bank's records, in the order of their numbers
pub record IsBankStats (shape : Shape) (logs : List (List Record)) (bank : ℕ) (stats : BankStats) : Type 0 where
  pub order : List Record
  pub numbered : IsNumbered logs bank order
  pub counts : stats ≡ bank_stats shape order

-- there are the counts of each bank, and of each port the number of tags that wait
pub record AreStats (shape : Shape) (logs : List (List Record)) (stats : Stats) : Type 0 where
  pub each_bank : length stats.banks.items ≡ shape.banks
  pub bank : (b : ℕ) (d : BankStats) → b < shape.banks → IsBankStats shape logs b (slice_index_or stats.banks.items b d)
  pub each_port : length stats.unanswered.items ≡ shape.ports
  pub port : (p : ℕ) → p < shape.ports → slice_index stats.unanswered.items p ≡ unanswered (slice_index_or logs p [])
