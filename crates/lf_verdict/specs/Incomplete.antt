-- Requests of a trace that have no reply at its end.
use Rattle.std.specs.Prelude.{◌≡◌, ℕ, List, Option, None}
use Rattle.lf_rules.specs.declared.shape.Shape.{Shape}
use Rattle.lf_rules.specs.declared.event.Record.{Record}
use Rattle.lf_rules.specs.Fits.{Bytes}
use Rattle.lf_logs.specs.declared.incomplete.Incomplete.{Incomplete}
use Rattle.lf_logs.specs.Incomplete.{IsFirstIncomplete}
use Rattle.lf_verdict.specs.declared.answer.Outcome.{Outcome}
use Rattle.lf_verdict.specs.declared.answer.Outcome.TheVariants.{Yes}
use Rattle.lf_verdict.specs.Legal.{IsTraceFor}

-- This is the first request of the trace in the bytes that has no reply, or each request has one.
pub record IsIncompleteIn (shape : Shape) (bytes : List ℕ) (found : Option Incomplete) : Type 0 where
  pub memory : List (ℕ × Bytes)
  pub logs : List (List Record)
  pub trace : IsTraceFor shape bytes memory logs
  pub first : IsFirstIncomplete shape.ports logs found

-- It is told after a yes alone.
abbrev pub IsIncompleteFor : Shape → List ℕ → Outcome → Option Incomplete → Type 0
IsIncompleteFor shape bytes (Yes events) found = IsIncompleteIn shape bytes found
IsIncompleteFor shape bytes outcome found = found ≡ None
