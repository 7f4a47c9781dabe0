use Rattle.std.proofs.Common.{◌≡◌, ◌≤◌, [], length, vec_capacity}
use Rattle.std.specs.Prelude.{All}
use Rattle.lf_pool.specs.declared.rule.View.TheVariants.{Keeper}
use Rattle.lf_pool.specs.Worked.{IsClaimer}
use Rattle.lf_pool.proofs.pool.new_claimers.Given as goal

abbrev pub invariant-loop-number : goal.invariant-loop-number
invariant-loop-number l = record {
  table : l.keeper.table_id ≡ l.shared.table_id;
  made : l.keeper.me ≡ (Keeper l.number [], []);
  count : length l.claimers.items ≡ l.number;
  claimers : All (IsClaimer l.shared.table_id) l.claimers.items;
  room : l.workers ≤ vec_capacity l.claimers;
}
