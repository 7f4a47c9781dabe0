-- Why a verdict is what it is, as JSON.
use Rattle.std.specs.Prelude.{◌≡◌, ◌⊎◌, ℕ, Bool, true, false, List, [], ◌∷◌, ◌++◌, codes, Option, Some, None}
use Rattle.serde_json.specs.Data.{no_members}
use Rattle.serde_json.specs.Written.{compact_text}
use Rattle.lf_rules.specs.declared.shape.Shape.{Shape}
use Rattle.lf_logs.specs.declared.incomplete.Incomplete.{Incomplete}
use Rattle.lf_verdict.specs.declared.answer.Outcome.{Outcome}
use Rattle.lf_verdict.specs.declared.answer.Outcome.TheVariants.{Refused}
use Rattle.lf_verdict.specs.declared.answer.Refusal.TheVariants.{Memory}
use Rattle.lf_verdict.specs.declared.session.breaking.Broken.{Broken}
use Rattle.lf_verdict.specs.declared.session.conclusion.Conclusion.{Conclusion}
use Rattle.explain_json.specs.Answer.{word_of, told, IsAnswer}
use Rattle.run_report.specs.Explain.{told_if, headline_text}

-- an object with a line alone, which is that of a refusal
abbrev pub bare : List ℕ → List ℕ
bare line = compact_text (told line (codes "refused") no_members) ++ 10 ∷ []

-- A legal trace is not complete where a request without a reply is told.
abbrev pub is_complete : Option Incomplete → Bool
is_complete (Some found) = false
is_complete None = true

-- The text is an object with the line and the word of the answer.
abbrev pub IsJsonOf : Bool → Outcome → Option Broken → Option Incomplete → List ℕ → Type 0
IsJsonOf first outcome earliest found text =
    IsAnswer (headline_text first outcome earliest found) (word_of outcome (is_complete found)) text

-- ... or memory ran out, and it has the line alone.
abbrev pub IsJson : Bool → Bool → Option Shape → Conclusion → List ℕ → Type 0
IsJson complete first shape c text = IsJsonOf first c.outcome c.broken (told_if complete c.incomplete) text
    ⊎ ((c.outcome ≡ Refused Memory) × (text ≡ bare (codes "refused memory")))
