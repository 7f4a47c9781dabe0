use Rattle.std.proofs.Common.{◌≡◌, ℕ, List, Some, Result, Ok, Err, IfOk, String, string_bytes, refl}
use Rattle.std.specs.Global.{Global}
use Rattle.lf_rules.specs.declared.shape.Shape.{Shape}
use Rattle.lf_stats.specs.declared.counts.Stats.{Stats}
use Rattle.lf_stats.specs.Text.{stats_text}
use Rattle.lf_verdict.specs.declared.answer.Outcome.{Outcome}
use Rattle.lf_verdict.specs.declared.answer.Outcome.TheVariants.{Yes, No, Refused}
use Rattle.lf_verdict.specs.declared.session.conclusion.Conclusion.{Conclusion}
use Rattle.lf_verdict.specs.Outcome.{IsYesOutcome}
use Rattle.lf_verdict.specs.Statistics.{AreStatisticsOf}
use Rattle.run_engine.specs.Asks.{IfLegal, IsReport, AreStatisticsLines}
use Rattle.run_engine.specs.Line.{line_of}
use Rattle.run_engine.proofs.asks.statistics.StatisticsAsk.text.Goals as goal

some_lines : (shape : Shape) (bytes : List ℕ) (outcome : Outcome) (stats : Stats) (text : List ℕ) → IsYesOutcome outcome
    → AreStatisticsOf shape bytes stats → text ≡ stats_text stats
    → IfLegal (AreStatisticsLines shape bytes) outcome text
some_lines shape bytes (Yes events) stats text legal is lines = record { stats = stats; statistics = is; lines = lines }
some_lines shape bytes (No fault) stats text legal is lines = absurd legal
some_lines shape bytes (Refused refusal) stats text legal is lines = absurd legal

no_lines : (shape : Shape) (bytes : List ℕ) (outcome : Outcome) (text : List ℕ) → (IsYesOutcome outcome → ⊥)
    → text ≡ line_of outcome → IfLegal (AreStatisticsLines shape bytes) outcome text
no_lines shape bytes (Yes events) text other line = absurd (other tt)
no_lines shape bytes (No fault) text other line = line
no_lines shape bytes (Refused refusal) text other line = line

module _ {E : Type 0} (shape : Shape) (c : Conclusion) where
  stats_told : (stats : Stats) (r : Result (String Global) E) → IsYesOutcome c.outcome
      → AreStatisticsOf shape c.fed.bytes stats → IfOk r (λ text. string_bytes text ≡ stats_text stats)
      → IfOk r (λ text. IsReport AreStatisticsLines (Some shape) c (string_bytes text))
  stats_told stats (Ok text) legal is lines =
      some_lines shape c.fed.bytes c.outcome stats (string_bytes text) legal is lines
  stats_told stats (Err e) legal is lines = tt

  line_told : (r : Result (String Global) E) → (IsYesOutcome c.outcome → ⊥)
      → IfOk r (λ text. string_bytes text ≡ line_of c.outcome)
      → IfOk r (λ text. IsReport AreStatisticsLines (Some shape) c (string_bytes text))
  line_told (Ok text) other line = no_lines shape c.fed.bytes c.outcome (string_bytes text) other line
  line_told (Err e) other line = tt

pub returns-in-Some : goal.returns-in-Some
returns-in-Some c =
    let is = c.requires.concluded in
    stats_told _ c.args.conclusion.now c.in-Some.stats c.statistics_lines.result (is.after_yes (rw c.in-Some.is refl))
    (rw c.in-Some.is at is.statistics) c.statistics_lines.ensures

pub returns-in-None : goal.returns-in-None
returns-in-None c =
    let is = c.requires.concluded in
    line_told _ c.args.conclusion.now c.outcome_line.result
    (λ legal. let some = rw c.in-None.is at is.counted refl legal in absurd (cc)) c.outcome_line.ensures
