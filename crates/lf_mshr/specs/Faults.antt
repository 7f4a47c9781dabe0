-- The rule that each fault of a register file stands for.
use Rattle.std.specs.Prelude.{Option, Some, None, Result, Ok, Err}
use Rattle.lf_rules.specs.declared.rule.Rule.{Rule}
use Rattle.lf_rules.specs.declared.rule.Rule.TheVariants.{RegisterRange, WrongRegister, RegisterBusy}
use Rattle.lf_rules.specs.declared.rule.Rule.TheVariants.{PrimaryInFlight, NotInFlight as BlockNotInFlight, MergeFull}
use Rattle.lf_mshr.specs.declared.fault.RegisterFault.{RegisterFault}
use Rattle.lf_mshr.specs.declared.fault.RegisterFault.TheVariants.{InFlight, NotInFlight, Range, Wrong, Busy, Full}

abbrev pub rule_of : RegisterFault → Rule
rule_of InFlight = PrimaryInFlight
rule_of NotInFlight = BlockNotInFlight
rule_of Range = RegisterRange
rule_of Wrong = WrongRegister
rule_of Busy = RegisterBusy
rule_of Full = MergeFull

-- none where the call was answered with Ok
abbrev pub refusal_of : {A : Type 0} → Result A RegisterFault → Option Rule
refusal_of (Ok x) = None
refusal_of (Err fault) = Some (rule_of fault)

-- the rule of the fault, where there is one
abbrev pub broken_rule : Option RegisterFault → Option Rule
broken_rule None = None
broken_rule (Some fault) = Some (rule_of fault)
