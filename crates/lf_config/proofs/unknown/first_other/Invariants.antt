-- What is left has the same first unknown name.
use Rattle.std.proofs.Common.{◌≡◌}
use Rattle.toml.specs.View.{table_view}
use Rattle.lf_config.specs.Unknown.{is_known, first_other}
use Rattle.lf_config.proofs.Names.{first_name}
use Rattle.lf_config.proofs.unknown.first_other.Given as goal

abbrev pub invariant-loop-name : goal.invariant-loop-name
invariant-loop-name l = record {
  can : (goal.iterator-loop-name).can_next l.name-iterator;
  ends : (goal.iterator-loop-name).is_finite l.name-iterator;
  same : first_name (is_known l.level) l.name-iterator ≡ first_other (is_known l.level) (table_view l.table);
}
