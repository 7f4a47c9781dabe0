-- The laws about verdicts for the hierarchy that a text says.
use Rattle.std.specs.Prelude.{◌≡◌, ℕ, ◌<◌, List, Option, Some, None, slice_index, string_bytes}
use Rattle.lf_config.specs.declared.fault.ConfigFault.{ConfigFault}
use Rattle.lf_config.specs.declared.fault.ConfigFault.TheVariants as told
use Rattle.lf_config.specs.Configuration.{Fault, not_toml, unknown, missing, kind, range}
use Rattle.lf_verdict.specs.declared.answer.Verdict.{Verdict}
use Rattle.lf_verdict.specs.declared.answer.Verdict.TheVariants.{Refused}
use Rattle.lf_verdict.specs.declared.answer.Refusal.TheVariants as refusals
use Rattle.lf_verdict.specs.Configured.{IsVerdictFor}
use Rattle.lf_verdict.specs.Laws.{SameVerdict, AreMixtures}

-- the fault of a text that is told
abbrev pub fault_told : ConfigFault → Option Fault
fault_told told.NotToml = Some not_toml
fault_told (told.Unknown name) = Some (unknown (string_bytes name))
fault_told (told.Missing key) = Some (missing key)
fault_told (told.Kind key) = Some (kind key)
fault_told (told.Range key) = Some (range key)
fault_told told.NoMemory = None

-- the same verdict, wherever its order or its name lies in memory
abbrev pub SameVerdictFor : Verdict → Verdict → Type 0
SameVerdictFor (Refused (refusals.Config fault)) (Refused (refusals.Config fault')) =
    fault_told fault ≡ fault_told fault'
SameVerdictFor verdict verdict' = SameVerdict verdict verdict'

-- A text and bytes have one verdict.
abbrev pub VerdictsForAreOne : Type 0
VerdictsForAreOne = (text : List ℕ) (workers : ℕ) (bytes : List ℕ) (a b : Verdict) →
    ((i : ℕ) → slice_index bytes i < 256)
    → IsVerdictFor text workers bytes a → IsVerdictFor text workers bytes b → SameVerdictFor a b

-- Mixtures of the same logs have the same verdicts.
abbrev pub MixturesAreAlikeFor : Type 0
MixturesAreAlikeFor = (text : List ℕ) (workers : ℕ) (bytes other : List ℕ) (verdict : Verdict) →
    ((i : ℕ) → slice_index bytes i < 256)
    → AreMixtures bytes other → IsVerdictFor text workers bytes verdict → IsVerdictFor text workers other verdict
