-- The counts of the banks.
use Rattle.std.specs.Prelude.{◌≡◌, ℕ, ◌<◌, List, length, slice_index_or, Some}
use Rattle.lf_stats.specs.declared.bank_count.BankCount.{BankCount}
use Rattle.lf_stats.specs.declared.counts.BankStats.{BankStats}
use Rattle.lf_verdict.specs.declared.session.standing.bank_judge.BankJudge.{BankJudge}

-- Each of the first banks counts, and these are their counts.
pub record AreCountsOf (some : ℕ) (banks : List BankJudge) (counts : List BankStats) : Type 0 where
  pub len : length counts ≡ some
  pub each : (bank : ℕ) (d : BankJudge) (e : BankStats) → bank < some → (count : BankCount)
      × (((slice_index_or banks bank d).count ≡ Some count) × (slice_index_or counts bank e ≡ count.stats))
