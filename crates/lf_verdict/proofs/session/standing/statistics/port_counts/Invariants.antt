use Rattle.std.proofs.Common.{◌≡◌, ◌<◌, ℕ, List, length, get_or}
use Rattle.lf_rules.specs.declared.event.Record.{Record}
use Rattle.lf_rules.specs.declared.shape.Shape.{Shape}
use Rattle.lf_logs.specs.Tags.{PortStandsAfter}
use Rattle.lf_stats.specs.Statistics.{unanswered}
use Rattle.lf_verdict.specs.declared.session.standing.port_judge.PortJudge.{PortJudge}
use Rattle.lf_verdict.proofs.session.standing.statistics.port_counts.Given as goal

abbrev pub invariant-loop-judge : goal.invariant-loop-judge
invariant-loop-judge l = record {
  count : length l.counts.items ≡ l.judge-index;
  each : (port : ℕ) (e : ℕ) (d : PortJudge) (shape : Shape) (log : List Record) → port < l.judge-index
      → PortStandsAfter (get_or l.ports port d).step shape log → get_or l.counts.items port e ≡ unanswered log;
}
