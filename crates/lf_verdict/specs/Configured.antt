-- Which verdict a trace has for the hierarchy that a text says.
use Rattle.std.specs.Prelude.{◌≡◌, ℕ, List, length, Ok}
use Rattle.lf_rules.specs.declared.shape.Shape.{Shape}
use Rattle.lf_config.specs.declared.fault.ConfigFault.{ConfigFault}
use Rattle.lf_config.specs.declared.fault.ConfigFault.TheVariants as told
use Rattle.lf_config.specs.Configuration.{configuration_of, Tells}
use Rattle.lf_verdict.specs.declared.answer.Verdict.{Verdict}
use Rattle.lf_verdict.specs.declared.answer.Verdict.TheVariants.{Yes, Refused}
use Rattle.lf_verdict.specs.declared.answer.Refusal.{Refusal}
use Rattle.lf_verdict.specs.declared.answer.Refusal.TheVariants as refusals
use Rattle.lf_verdict.specs.Legal.{IsLegal}
use Rattle.lf_verdict.specs.Laws.{IsRunlessNo}
use Rattle.lf_verdict.specs.Verdict.{IsWorkerCount, IsTraceVerdict}

-- the fault is the first of the text
abbrev pub IsConfigFault : List ℕ → ConfigFault → Type 0
IsConfigFault text told.NoMemory = ⊥
IsConfigFault text fault = Tells fault (configuration_of text)

-- the refusal that tells the fault
abbrev pub config_refusal : ConfigFault → Refusal
config_refusal told.NoMemory = refusals.Memory
config_refusal fault = refusals.Config fault

-- The bytes have this verdict for the shape that the text says.
pub record IsConfiguredVerdict (text bytes : List ℕ) (answer : Verdict) : Type 0 where
  pub shape : Shape
  pub configured : configuration_of text ≡ Ok shape
  pub verdict : IsTraceVerdict shape bytes answer

-- The workers are judged first, then the text, then the trace.
abbrev pub IsVerdictFor : List ℕ → ℕ → List ℕ → Verdict → Type 0
IsVerdictFor text workers bytes (Refused (refusals.Workers n)) = (n ≡ workers) × ¬ IsWorkerCount workers
IsVerdictFor text workers bytes (Refused (refusals.Config fault)) = IsWorkerCount workers × IsConfigFault text fault
IsVerdictFor text workers bytes verdict = IsWorkerCount workers × IsConfiguredVerdict text bytes verdict

-- The text says a shape for which the trace is legal, by this order.
pub record IsLegalFor (text bytes order : List ℕ) : Type 0 where
  pub shape : Shape
  pub configured : configuration_of text ≡ Ok shape
  pub legal : IsLegal shape bytes order

-- a no means that the trace has no run, for the shape that the text says
abbrev pub IsRunlessNoFor : List ℕ → List ℕ → Verdict → Type 0
IsRunlessNoFor text bytes verdict = (shape : Shape) → configuration_of text ≡ Ok shape → IsRunlessNo shape bytes verdict

abbrev pub IsLegalYesFor : List ℕ → List ℕ → Verdict → Type 0
IsLegalYesFor text bytes (Yes events order) = IsLegalFor text bytes order.items × (events ≡ length order.items)
IsLegalYesFor text bytes _ = Unit {0}
