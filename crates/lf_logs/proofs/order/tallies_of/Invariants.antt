use Rattle.std.proofs.Common.{◌≡◌, length}
use Rattle.lf_rules.specs.Run.{of_bank}
use Rattle.lf_rules.specs.Numbers.{all_records}
use Rattle.lf_logs.specs.Tallies.{AreTallies}
use Rattle.lf_logs.proofs.Joined.{of_first}
use Rattle.lf_logs.proofs.order.tallies_of.Given as goal

abbrev pub invariant-loop-log : goal.invariant-loop-log
invariant-loop-log g l =
    let lists = g.L.LogRecords.lists l.logs in
    record {
      len : length l.tallies.items ≡ length (of_bank l.bank (all_records lists));
      counted : AreTallies lists l.bank (of_first l.log lists) l.tallies.items;
    }
