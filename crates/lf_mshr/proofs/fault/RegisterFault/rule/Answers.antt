use Rattle.std.proofs.Common.{rules}
use Rattle.lf_mshr.proofs.fault.RegisterFault.rule.Goals as goal

pub returns-in-Wrong : goal.returns-in-Wrong
returns-in-Wrong c = search rules
