-- The rules' names, as they are printed.
use Rattle.std.specs.Prelude.{ℕ, List, codes}
use Rattle.lf_rules.specs.declared.rule.Rule.{Rule}
use Rattle.lf_rules.specs.declared.rule.Rule.TheVariants as rules

abbrev pub rule_text : Rule → List ℕ
rule_text rules.TagRange = codes "TagRange"
rule_text rules.TagBusy = codes "TagBusy"
rule_text rules.NotOutstanding = codes "NotOutstanding"
rule_text rules.NotReady = codes "NotReady"
rule_text rules.ReplySize = codes "ReplySize"
rule_text rules.ReplyData = codes "ReplyData"
rule_text rules.NotHead = codes "NotHead"
rule_text rules.NotPresent = codes "NotPresent"
rule_text rules.Present = codes "Present"
rule_text rules.PrimaryInFlight = codes "PrimaryInFlight"
rule_text rules.NotInFlight = codes "NotInFlight"
rule_text rules.RegisterRange = codes "RegisterRange"
rule_text rules.WrongRegister = codes "WrongRegister"
rule_text rules.RegisterBusy = codes "RegisterBusy"
rule_text rules.MergeFull = codes "MergeFull"
rule_text rules.NeedlessStall = codes "NeedlessStall"
rule_text rules.NotSupplied = codes "NotSupplied"
rule_text rules.SetFull = codes "SetFull"
rule_text rules.FillData = codes "FillData"
rule_text rules.EvictAbsent = codes "EvictAbsent"
rule_text rules.EvictMask = codes "EvictMask"
rule_text rules.EvictData = codes "EvictData"
rule_text rules.NotAsked = codes "NotAsked"
rule_text rules.SecondAbsent = codes "SecondAbsent"
rule_text rules.SecondPresent = codes "SecondPresent"
rule_text rules.NotFetched = codes "NotFetched"
rule_text rules.Inclusion = codes "Inclusion"
rule_text rules.FenceBusy = codes "FenceBusy"
