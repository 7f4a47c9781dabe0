-- The coverage of a legal trace.
use Rattle.std.specs.Prelude.{◌≡◌, ℕ, List}
use Rattle.lf_rules.specs.declared.shape.Shape.{Shape}
use Rattle.lf_rules.specs.declared.event.Record.{Record}
use Rattle.lf_rules.specs.Fits.{Bytes}
use Rattle.count_coverage.specs.declared.coverage.Coverage.{Coverage}
use Rattle.count_coverage.specs.Coverage.{IsCoverage}
use Rattle.count_coverage.specs.Text.{coverage_text}
use Rattle.count_coverage.specs.Data.{data_text}
use Rattle.lf_verdict.specs.Legal.{IsTraceFor}
use Rattle.run_report.specs.declared.cover.CoverageForm.{CoverageForm}
use Rattle.run_report.specs.declared.cover.CoverageForm.TheVariants.{Lines, Data}

-- This is the coverage of the logs of the trace in the bytes.
pub record IsCoverageOf (shape : Shape) (bytes : List ℕ) (coverage : Coverage) : Type 0 where
  pub memory : List (ℕ × Bytes)
  pub logs : List (List Record)
  pub trace : IsTraceFor shape bytes memory logs
  pub counts : IsCoverage shape logs coverage

abbrev pub text_of : CoverageForm → Coverage → List ℕ
text_of Lines coverage = coverage_text coverage
text_of Data coverage = data_text coverage

-- The text is that coverage, in this form.
pub record IsCovered (form : CoverageForm) (shape : Shape) (bytes text : List ℕ) : Type 0 where
  pub coverage : Coverage
  pub covered : IsCoverageOf shape bytes coverage
  pub lines : text ≡ text_of form coverage
