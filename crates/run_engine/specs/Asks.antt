-- Which text is due for each thing that can be asked.
use Rattle.std.specs.Prelude.{◌≡◌, ℕ, List, [], ◌∷◌, ◌++◌, codes, Option, Some, None}
use Rattle.lf_rules.specs.declared.shape.Shape.{Shape}
use Rattle.lf_logs.specs.declared.incomplete.Incomplete.{Incomplete}
use Rattle.lf_logs.specs.Incomplete.{incomplete_text}
use Rattle.lf_stats.specs.declared.counts.Stats.{Stats}
use Rattle.lf_stats.specs.Text.{stats_text}
use Rattle.lf_verdict.specs.declared.answer.Outcome.{Outcome}
use Rattle.lf_verdict.specs.declared.answer.Outcome.TheVariants.{Yes}
use Rattle.lf_verdict.specs.declared.session.breaking.Broken.{Broken}
use Rattle.lf_verdict.specs.declared.session.conclusion.Conclusion.{Conclusion}
use Rattle.lf_verdict.specs.Statistics.{AreStatisticsOf}
use Rattle.lf_verdict.specs.Text.{broken_text}
use Rattle.run_engine.specs.Line.{line_of}

-- the line of the verdict
abbrev pub IsLine : Option Shape → Conclusion → List ℕ → Type 0
IsLine shape c text = text ≡ line_of c.outcome

-- ---- a request without a reply

abbrev pub incomplete_line : Incomplete → List ℕ
incomplete_line found = codes "no " ++ incomplete_text found ++ 10 ∷ []

-- its line where one was found, and otherwise that of the verdict
abbrev pub line_with : Outcome → Option Incomplete → List ℕ
line_with outcome (Some found) = incomplete_line found
line_with outcome None = line_of outcome

abbrev pub IsCompletion : Option Shape → Conclusion → List ℕ → Type 0
IsCompletion (Some shape) c text = text ≡ line_with c.outcome c.incomplete
IsCompletion None c text = text ≡ line_of c.outcome

-- ---- what broke

abbrev pub broken_line : Broken → List ℕ
broken_line found = codes "broken " ++ broken_text found ++ 10 ∷ []

-- its line where something did, and otherwise that of the verdict
abbrev pub watched_line : Outcome → Option Broken → List ℕ
watched_line outcome (Some found) = broken_line found
watched_line outcome None = line_of outcome

abbrev pub IsWatched : Option Shape → Conclusion → List ℕ → Type 0
IsWatched (Some shape) c text = text ≡ watched_line c.outcome c.broken
IsWatched None c text = text ≡ line_of c.outcome

-- ---- what is told of a legal trace

-- After a yes the text has these lines of the bytes, and otherwise it is the line of the verdict.
abbrev pub IfLegal : (List ℕ → Type 0) → Outcome → List ℕ → Type 0
IfLegal AreLines (Yes events) text = AreLines text
IfLegal AreLines outcome text = text ≡ line_of outcome

abbrev pub IsReport : (Shape → List ℕ → List ℕ → Type 0) → Option Shape → Conclusion → List ℕ → Type 0
IsReport AreLines (Some shape) c text = IfLegal (AreLines shape c.fed.bytes) c.outcome text
IsReport AreLines None c text = text ≡ line_of c.outcome

-- the lines of its statistics
pub record AreStatisticsLines (shape : Shape) (bytes text : List ℕ) : Type 0 where
  pub stats : Stats
  pub statistics : AreStatisticsOf shape bytes stats
  pub lines : text ≡ stats_text stats
