-- What is kept of a level between two records.
use Rattle.std.specs.Prelude.{◌≡◌, ℕ, List, unwrap_or}
use Rattle.std.specs.BTreeMap.{get}
use Rattle.std.specs.Ordering.{nat_cmp}
use Rattle.count_usage.specs.declared.change.Change.{Change}
use Rattle.count_usage.specs.declared.tally.Counts.{Counts}
use Rattle.count_usage.specs.declared.tally.Tally.{Tally}
use Rattle.count_usage.specs.Usage.{lines, held, targets, level_use}

abbrev pub count_at : Counts → ℕ → ℕ
count_at counts key = unwrap_or (get nat_cmp counts.0 key) 0

-- what is kept tells what the level holds
pub record Holds (tally : Tally) (before : List Change) : Type 0 where
  pub lines : (set : ℕ) → count_at tally.lines set ≡ lines set before
  pub targets : (register : ℕ) → count_at tally.targets register ≡ targets register before
  pub held : tally.held ≡ held before

-- and what was used of it at most
pub record IsTally (tally : Tally) (before : List Change) : Type 0 where
  pub holds : Holds tally before
  pub most : tally.most ≡ level_use before
