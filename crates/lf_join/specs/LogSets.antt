-- Sets of logs.
use Rattle.std.specs.Prelude.{◌≡◌, ◌≢◌, ℕ, ◌<◌, ◌≤◌, Bool, true, false, ◌==◌}
use Rattle.std.specs.Int.{bit_at}
use Rattle.lf_join.specs.declared.log_set.LogSet.{LogSet}

-- whether the log is a member
unfoldable pub has : LogSet → ℕ → Bool
has set log = bit_at set.0 log == 1

abbrev pub IsEmpty : LogSet → Type 0
IsEmpty set = (log : ℕ) → log < 32 → has set log ≡ false

pub record IsLowest (set : LogSet) (log : ℕ) : Type 0 where
  pub is_log : log < 32
  pub member : has set log ≡ true
  pub none_below : (other : ℕ) → other < log → has set other ≡ false

-- The log is a member from now on or is none, and each other log is one as before.
pub record Changes (old new : LogSet) (log : ℕ) (now : Bool) : Type 0 where
  pub this : has new log ≡ now
  pub others : (other : ℕ) → other < 32 → other ≢ log → has new other ≡ has old other

-- as numbers, which a loop over the members counts down
abbrev pub IsSetNotAbove : LogSet → LogSet → Type 0
IsSetNotAbove new old = new.0 ≤ old.0

abbrev pub IsSetBelow : LogSet → LogSet → Type 0
IsSetBelow new old = new.0 < old.0
