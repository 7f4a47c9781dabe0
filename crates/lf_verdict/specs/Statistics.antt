-- The statistics of a trace whose verdict is a yes.
use Rattle.std.specs.Prelude.{ℕ, List}
use Rattle.lf_rules.specs.declared.shape.Shape.{Shape}
use Rattle.lf_rules.specs.declared.event.Record.{Record}
use Rattle.lf_rules.specs.Fits.{Bytes}
use Rattle.lf_stats.specs.declared.counts.Stats.{Stats}
use Rattle.lf_stats.specs.Answer.{AreStats}
use Rattle.lf_verdict.specs.declared.answer.Verdict.{Verdict}
use Rattle.lf_verdict.specs.declared.answer.Verdict.TheVariants.{Yes}
use Rattle.lf_verdict.specs.Legal.{IsTraceFor}

abbrev pub IsYesVerdict : Verdict → Type 0
IsYesVerdict (Yes events order) = Unit {0}
IsYesVerdict _ = ⊥

-- These are the statistics of the logs of the trace in the bytes.
pub record AreStatisticsOf (shape : Shape) (bytes : List ℕ) (stats : Stats) : Type 0 where
  pub memory : List (ℕ × Bytes)
  pub logs : List (List Record)
  pub trace : IsTraceFor shape bytes memory logs
  pub counts : AreStats shape logs stats
