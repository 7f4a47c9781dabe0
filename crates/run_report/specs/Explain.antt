-- Why a verdict is what it is.
use Rattle.std.specs.Prelude.{◌≡◌, ℕ, Bool, true, false, List, ◌∷◌, ◌++◌, codes, Option, Some, None}
use Rattle.lf_rules.specs.declared.shape.Shape.{Shape}
use Rattle.lf_config.specs.declared.fault.ConfigFault.{ConfigFault}
use Rattle.lf_logs.specs.declared.incomplete.Incomplete.{Incomplete}
use Rattle.lf_logs.specs.Incomplete.{incomplete_text}
use Rattle.lf_verdict.specs.declared.answer.Outcome.{Outcome}
use Rattle.lf_verdict.specs.declared.answer.Outcome.TheVariants.{No, Refused}
use Rattle.lf_verdict.specs.declared.answer.Refusal.TheVariants as refusals
use Rattle.lf_verdict.specs.declared.session.breaking.Broken.{Broken}
use Rattle.lf_verdict.specs.declared.session.breaking.Broken.TheVariants.{Part}
use Rattle.lf_verdict.specs.Text.{broken_text}
use Rattle.lf_verdict.specs.declared.session.conclusion.Conclusion.{Conclusion}
use Rattle.explain_refusal.specs.declared.stop.TomlFault.{TomlFault}
use Rattle.explain_refusal.specs.Config.{config_text}
use Rattle.explain_refusal.specs.Stop.{IsTomlFault}
use Rattle.explain_why.specs.declared.why.Why.{Why}
use Rattle.explain_why.specs.Why.{is_told, IsWhy, why_text}
use Rattle.run_engine.specs.Line.{outcome_text, line_of}

-- the time of a log's record, by its place in the log, where one is told
abbrev pub Times : Type 0
Times = ℕ → ℕ → Option (List ℕ)

-- the request without a reply that is told: the first, where complete traces are asked for
abbrev pub told_if : Bool → Option Incomplete → Option Incomplete
told_if true found = found
told_if false found = None

-- the line of a request without a reply, or otherwise that of the verdict, with no newline
abbrev pub answer_text : Outcome → Option Incomplete → List ℕ
answer_text outcome (Some found) = codes "no " ++ incomplete_text found
answer_text outcome None = outcome_text outcome

-- the line of what broke first, or this one where it was no record
abbrev pub first_text : Option Broken → List ℕ → List ℕ
first_text (Some (Part part upon)) line = codes "broken " ++ broken_text (Part part upon)
first_text earliest line = line

-- that line, or of a no where that is asked for the line of what broke first
abbrev pub headline_text : Bool → Outcome → Option Broken → Option Incomplete → List ℕ
headline_text false outcome earliest found = answer_text outcome found
headline_text true (No fault) earliest found = first_text earliest (answer_text (No fault) found)
headline_text true outcome earliest found = answer_text outcome found

-- The text has that line, and after an empty line it tells why.
pub record TellsBehindLine (shape : Shape) (bytes : List ℕ) (time : Times) (most : ℕ) (first : Bool) (outcome : Outcome)
    (earliest : Option Broken) (found : Option Incomplete) (text : List ℕ) : Type 0 where
  pub why : Why
  pub is_why : IsWhy shape bytes time most first outcome earliest found why
  pub lines : text ≡ headline_text first outcome earliest found ++ 10 ∷ 10 ∷ why_text shape bytes why

-- Where it is told why, the text tells it, and otherwise it is the line of the verdict.
abbrev pub IsToldOf : Shape → List ℕ → Times → ℕ → Bool → Outcome → Option Broken → Option Incomplete → Bool → List ℕ →
    Type 0
IsToldOf shape bytes time most first outcome earliest found true text =
    TellsBehindLine shape bytes time most first outcome earliest found text
IsToldOf shape bytes time most first outcome earliest found false text = text ≡ line_of outcome

-- The text has the line of the refusal, and after an empty line it tells what is wrong with the configuration.
pub record TellsConfig (config : List ℕ) (fault : ConfigFault) (text : List ℕ) : Type 0 where
  pub stop : Option TomlFault
  pub is_stop : IsTomlFault config stop
  pub lines : text
      ≡ outcome_text (Refused (refusals.Config fault)) ++ 10 ∷ 10 ∷ config_text fault stop config

-- Before a trace is asked for, only a configuration is at fault.
abbrev pub IsRefused : List ℕ → Outcome → List ℕ → Type 0
IsRefused config (Refused (refusals.Config fault)) text = TellsConfig config fault text
IsRefused config outcome text = text ≡ line_of outcome

abbrev pub IsExplained : List ℕ → Times → ℕ → Bool → Bool → Option Shape → Conclusion → List ℕ → Type 0
IsExplained config time most complete first (Some shape) c text = IsToldOf shape c.fed.bytes time most first c.outcome
    c.broken (told_if complete c.incomplete) (is_told c.outcome) text
IsExplained config time most complete first None c text = IsRefused config c.outcome text
