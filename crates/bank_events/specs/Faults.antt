-- What a bank's fault says of a record.
use Rattle.std.specs.Prelude.{◌≡◌, Bool, Option, Some, None, if◌then◌else◌}
use Rattle.lf_rules.specs.declared.rule.Rule as model
use Rattle.lf_rules.specs.declared.rule.Rule.TheVariants.{SetFull}
use Rattle.bank_events.specs.declared.fault.BankFault.{BankFault}
use Rattle.bank_events.specs.declared.fault.BankFault.TheVariants.{Rule, NoMemory}

-- the first rule that the record breaks; out of memory is told only of one that breaks none
abbrev pub IsStepFault : Option model.Rule → BankFault → Type 0
IsStepFault broken (Rule rule) = broken ≡ Some rule
IsStepFault broken NoMemory = broken ≡ None

-- the first rule that a fill breaks whose set may be full, where this is the first one after it
abbrev pub rule_if_full : Bool → Option model.Rule → Option model.Rule
rule_if_full full next = if full then Some SetFull else next
