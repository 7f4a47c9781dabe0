-- Why a verdict is what it is.
use Rattle.std.specs.Prelude.{◌≡◌, ℕ, Bool, true, false, List, length, ◌++◌, Option, Some, None}
use Rattle.lf_rules.specs.declared.shape.Shape.{Shape}
use Rattle.lf_rules.specs.declared.event.Record.{Record}
use Rattle.lf_codec.specs.declared.fault.CodecFault.{CodecFault}
use Rattle.lf_codec.specs.Reading.{reading_of}
use Rattle.lf_codec.specs.Steps.{header_at}
use Rattle.explain_refusal.specs.Format.{refusal_text}
use Rattle.explain_refusal.specs.Header.{header_text}
use Rattle.lf_logs.specs.declared.incomplete.Incomplete.{Incomplete}
use Rattle.count_usage.specs.declared.usage.Usage.{Usage}
use Rattle.count_usage.specs.Usage.{IsUsage}
use Rattle.count_usage.specs.Text.{usage_text}
use Rattle.lf_rules.specs.Fits.{Bytes}
use Rattle.lf_verdict.specs.declared.answer.Outcome.{Outcome}
use Rattle.lf_verdict.specs.declared.answer.Outcome.TheVariants as outcomes
use Rattle.lf_verdict.specs.declared.answer.Refusal.{Refusal}
use Rattle.lf_verdict.specs.declared.answer.Refusal.TheVariants as refusals
use Rattle.lf_verdict.specs.declared.session.breaking.Broken.{Broken}
use Rattle.lf_verdict.specs.Final.{IsToldFirst}
use Rattle.lf_verdict.specs.Legal.{IsTraceFor}
use Rattle.lf_verdict.specs.Outcome.{IsDecidedOutcome, IsOutcomeOf}
use Rattle.explain_why.specs.declared.why.Why.{Why}
use Rattle.explain_why.specs.declared.why.Why.TheVariants.{No, Yes, NotComplete, Format, Header}
use Rattle.lf_verdict.specs.Incomplete.{IsIncompleteIn}
use Rattle.explain_why.specs.BrokenBefore.{HasBrokenBefore, broken_before_text}
use Rattle.explain_why.specs.NotComplete.{IsNotComplete, not_complete_text}
use Rattle.explain_why.specs.NotLegal.{IsNotLegal, told_fault, not_legal_text}

-- This is what the logs of the trace in the bytes use at most.
pub record IsUsageOf (shape : Shape) (bytes : List ℕ) (usage : Usage) : Type 0 where
  pub memory : List (ℕ × Bytes)
  pub logs : List (List Record)
  pub trace : IsTraceFor shape bytes memory logs
  pub is : IsUsage shape logs usage

-- whether it is told why: not where a configuration, a number of workers, memory or a thread is refused
abbrev pub is_told_of_refusal : Refusal → Bool
is_told_of_refusal (refusals.Format fault) = true
is_told_of_refusal (refusals.Header field) = true
is_told_of_refusal _ = false

abbrev pub is_told : Outcome → Bool
is_told (outcomes.Refused refusal) = is_told_of_refusal refusal
is_told _ = true

-- A request without a reply is told of a legal trace alone.
abbrev pub IsIncompleteIf : Shape → List ℕ → Outcome → Option Incomplete → Type 0
IsIncompleteIf shape bytes (outcomes.Yes events) (Some found) = IsIncompleteIn shape bytes (Some found)
IsIncompleteIf shape bytes o (Some found) = ⊥
IsIncompleteIf shape bytes o None = Unit {0}

-- That is what judging the bytes came to.
pub record IsJudgement (shape : Shape) (bytes : List ℕ) (o : Outcome) (earliest : Option Broken)
    (incomplete : Option Incomplete) : Type 0 where
  pub outcome : IsDecidedOutcome o → IsOutcomeOf shape bytes o
  pub is_earliest : IsDecidedOutcome o → IsToldFirst shape bytes earliest
  pub is_incomplete : IsIncompleteIf shape bytes o incomplete

-- Why a legal trace is not complete, or otherwise what it uses at most.
abbrev pub IsWhyOfLegal : Shape → List ℕ → (ℕ → ℕ → Option (List ℕ)) → ℕ → Option Incomplete → Why → Type 0
IsWhyOfLegal shape bytes time most (Some found) (NotComplete why) = IsNotComplete shape bytes time most found why
IsWhyOfLegal shape bytes time most None (Yes usage) = IsUsageOf shape bytes usage
IsWhyOfLegal shape bytes time most _ _ = ⊥

-- Why bytes are no trace: the fault, how many event records stand before it, and what broke first in those. Nothing is
-- read behind a fault.
abbrev pub IsWhyOfFormat : Shape → List ℕ → (ℕ → ℕ → Option (List ℕ)) → ℕ → CodecFault → Why → Type 0
IsWhyOfFormat shape bytes time most fault (Format told count broken) =
    (told ≡ fault) × (count ≡ length (reading_of bytes).records) × HasBrokenBefore shape bytes time most broken
IsWhyOfFormat shape bytes time most fault _ = ⊥

-- That is why the judgement of these bytes is what it is, where `first` says whether what broke first is told in the
-- place of the verdict's fault.
abbrev pub IsWhy : Shape → List ℕ → (ℕ → ℕ → Option (List ℕ)) → ℕ → Bool → Outcome → Option Broken → Option Incomplete →
    Why → Type 0
IsWhy shape bytes time most first (outcomes.No fault) earliest incomplete (No why) =
    IsNotLegal shape bytes time most (told_fault first fault earliest) earliest why
IsWhy shape bytes time most first (outcomes.Yes events) earliest incomplete why =
    IsWhyOfLegal shape bytes time most incomplete why
IsWhy shape bytes time most first (outcomes.Refused (refusals.Format fault)) earliest incomplete why =
    IsWhyOfFormat shape bytes time most fault why
IsWhy shape bytes time most first (outcomes.Refused (refusals.Header field)) earliest incomplete Header = Unit {0}
IsWhy shape bytes time most first _ earliest incomplete _ = ⊥

-- It is there exactly where it is told.
abbrev pub HasWhy : Shape → List ℕ → (ℕ → ℕ → Option (List ℕ)) → ℕ → Bool → Outcome → Option Broken →
    Option Incomplete → Option Why → Type 0
HasWhy shape bytes time most first o earliest incomplete (Some why) =
    (is_told o ≡ true) × IsWhy shape bytes time most first o earliest incomplete why
HasWhy shape bytes time most first o earliest incomplete None = is_told o ≡ false

abbrev pub why_text : Shape → List ℕ → Why → List ℕ
why_text shape bytes (No why) = not_legal_text why
why_text shape bytes (Yes usage) = usage_text shape usage
why_text shape bytes (NotComplete why) = not_complete_text why
why_text shape bytes (Format fault count broken) =
    refusal_text bytes fault.cause fault.offset count ++ broken_before_text broken
why_text shape bytes Header = header_text (header_at bytes) shape
