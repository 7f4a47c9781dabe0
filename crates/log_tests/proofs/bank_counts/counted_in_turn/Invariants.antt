use Rattle.std.proofs.Common.{List}
use Rattle.lf_rules.specs.declared.event.Record.{Record}
use Rattle.lf_rules.specs.declared.shape.Shape.{Shape}
use Rattle.lf_stats.specs.Tally.{IsCounted}
use Rattle.log_tests.proofs.bank_counts.counted_in_turn.Given as goal

abbrev pub invariant-loop-item : goal.invariant-loop-item
invariant-loop-item l = (shape : Shape) × (rs : List Record) × IsCounted shape rs l.count
