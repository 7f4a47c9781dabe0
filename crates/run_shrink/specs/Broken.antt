-- The fault of a trace that is shrunk, and the record that it names.
use Rattle.std.specs.Prelude.{◌≡◌, ℕ, Bool, true, false, ◌&&◌, ◌==◌, List, filter, Option, Some, None, slice_get}
use Rattle.lf_rules.specs.declared.event.Record.{Record}
use Rattle.lf_rules.specs.declared.rule.Rule.{Rule}
use Rattle.lf_rules.specs.declared.shape.Shape.{Shape}
use Rattle.lf_verdict.specs.declared.answer.Fault.{Fault}
use Rattle.lf_verdict.specs.declared.answer.Fault.TheVariants as faults
use Rattle.lf_verdict.specs.declared.answer.Outcome.{Outcome}
use Rattle.lf_verdict.specs.declared.answer.Outcome.TheVariants.{No}
use Rattle.lf_verdict.specs.declared.session.breaking.PartFault.{PartFault}
use Rattle.lf_verdict.specs.declared.session.breaking.PartFault.TheVariants as parts
use Rattle.lf_verdict.specs.declared.session.breaking.Upon.{Upon}
use Rattle.lf_verdict.specs.declared.session.breaking.Broken.{Broken}
use Rattle.lf_verdict.specs.declared.session.breaking.Broken.TheVariants.{Part}
use Rattle.lf_verdict.specs.Final.{IsEarliest}
use Rattle.lf_verdict.specs.Outcome.{IsNo, IsOutcomeOf}
use Rattle.run_shrink.specs.declared.broken.RuleFault.{RuleFault}
use Rattle.run_shrink.specs.declared.broken.RuleFault.TheVariants.{Port, Bank}

-- ---- which fault

-- the same as a fault of a verdict
abbrev pub fault_of : RuleFault → Fault
fault_of (Port port at rule) = faults.Port port at rule
fault_of (Bank bank number rule) = faults.Bank bank number rule

-- the same as a fault of a part
abbrev pub part_of : RuleFault → PartFault
part_of (Port port at rule) = parts.Port port at rule
part_of (Bank bank number rule) = parts.Bank bank number rule

-- a fault of a verdict, where it names a rule
abbrev pub of_fault : Fault → Option RuleFault
of_fault (faults.Port port at rule) = Some (Port port at rule)
of_fault (faults.Bank bank number rule) = Some (Bank bank number rule)
of_fault _ = None

-- a fault of a part, where it names a rule
abbrev pub of_part : PartFault → Option RuleFault
of_part (parts.Port port at rule) = Some (Port port at rule)
of_part (parts.Bank bank number rule) = Some (Bank bank number rule)
of_part _ = None

-- what broke first, where that names a rule
abbrev pub of_broken : Option Broken → Option RuleFault
of_broken (Some (Part part upon)) = of_part part
of_broken _ = None

-- the fault of a trace with a no that names a rule: that of the verdict, or what broke first, where that is asked for
abbrev pub fault_in : Bool → Outcome → Option Broken → Option RuleFault
fault_in false (No fault) broken = of_fault fault
fault_in true (No fault) broken = of_broken broken
fault_in first _ broken = None

-- The bytes have this fault: their outcome is a no that names it, or that is another no, and it is what broke first.
abbrev pub HasFault : Bool → Shape → List ℕ → RuleFault → Type 0
HasFault false shape bytes fault = IsOutcomeOf shape bytes (No (fault_of fault))
HasFault true shape bytes fault = (verdict : Fault) × (upon : Option Upon) ×
    IsOutcomeOf shape bytes (No verdict) × IsEarliest shape bytes (Part (part_of fault) upon)

-- ---- which record

abbrev pub rule_of : RuleFault → Rule
rule_of (Port port at rule) = rule
rule_of (Bank bank number rule) = rule

-- the record at a place of a log
abbrev pub record_in_log : ℕ → ℕ → List Record → Option Record
record_in_log log at rs = slice_get (filter (λ r. r.log == log) rs) at

abbrev pub is_numbered : ℕ → ℕ → Record → Bool
is_numbered bank number r = (r.bank == bank) && (r.number == number)

-- the first record that has this number of the bank
abbrev pub record_of_number : ℕ → ℕ → List Record → Option Record
record_of_number bank number rs = slice_get (filter (is_numbered bank number) rs) 0

-- the record that breaks the rule
abbrev pub record_of : List Record → RuleFault → Option Record
record_of rs (Port port at rule) = record_in_log port at rs
record_of rs (Bank bank number rule) = record_of_number bank number rs
