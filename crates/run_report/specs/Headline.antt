-- The line that an explanation begins with.
use Rattle.std.specs.Prelude.{ℕ, List, ◌++◌, codes}
use Rattle.lf_verdict.specs.Text.{broken_text}
use Rattle.run_engine.specs.Line as engine
use Rattle.run_report.specs.declared.headline.Headline.{Headline}
use Rattle.run_report.specs.declared.headline.Headline.TheVariants.{Verdict, First}

abbrev pub line_text : Headline → List ℕ
line_text (Verdict line) = engine.line_text line
line_text (First found) = codes "broken " ++ broken_text found.now
