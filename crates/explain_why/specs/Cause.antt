-- Why one fault stands in a trace.
use Rattle.std.specs.Prelude.{ℕ, ◌<◌, List}
use Rattle.lf_rules.specs.declared.shape.Shape.{Shape}
use Rattle.lf_rules.specs.declared.event.Record.{Record}
use Rattle.lf_rules.specs.Fits.{Bytes}
use Rattle.explain_rule.specs.declared.explanation.Breach.TheVariants as breaches
use Rattle.explain_rule.specs.Explanation.{IsExplanation}
use Rattle.explain_rule.specs.Text.{explained_text}
use Rattle.explain_lines.specs.Marks.{Beside}
use Rattle.explain_numbers.specs.Reason.{TellsMissing, TellsDouble, TellsCycle}
use Rattle.explain_numbers.specs.Text.{reason_text}
use Rattle.lf_verdict.specs.declared.answer.Fault.{Fault}
use Rattle.lf_verdict.specs.declared.answer.Fault.TheVariants as faults
use Rattle.explain_why.specs.declared.cause.Cause.{Cause}
use Rattle.explain_why.specs.declared.cause.Cause.TheVariants.{Breach, Numbers}

-- where the fault names a bank, it is one of the shape's
abbrev pub HasBankOf : Shape → Fault → Type 0
HasBankOf shape (faults.Bank bank number rule) = bank < shape.banks
HasBankOf shape _ = Unit {0}

-- That is why the fault stands in a trace with this memory and these records, told with at most so many records before
-- it.
abbrev pub IsCause : Shape → List (ℕ × Bytes) → List Record → ℕ → Fault → Cause → Type 0
IsCause shape memory rs most (faults.Port port at rule) (Breach why) =
    IsExplanation shape memory rs (breaches.Port port at rule) most why
IsCause shape memory rs most (faults.Bank bank number rule) (Breach why) =
    IsExplanation shape memory rs (breaches.Bank bank number rule) most why
IsCause shape memory rs most (faults.Missing bank k) (Numbers reason) = TellsMissing rs bank k reason
IsCause shape memory rs most (faults.Double bank k) (Numbers reason) = TellsDouble rs bank k reason
IsCause shape memory rs most (faults.Cycle ring) (Numbers reason) = TellsCycle rs ring.items reason
IsCause shape memory rs most _ _ = ⊥

-- the text of a cause in a trace of these records, beside which these marks stand
abbrev pub cause_text : List Record → List Beside → Cause → List ℕ
cause_text rs marks (Breach why) = explained_text rs marks why
cause_text rs marks (Numbers reason) = reason_text rs marks reason
