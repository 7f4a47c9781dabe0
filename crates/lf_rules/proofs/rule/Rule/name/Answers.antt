use Rattle.std.proofs.Common.{rules}
use Rattle.lf_rules.proofs.rule.Rule.name.Goals as goal

pub returns-in-NotPresent : goal.returns-in-NotPresent
returns-in-NotPresent c = search rules
