use Rattle.std.proofs.Common.{sym, ◌∙◌}
use Rattle.lf_logs.proofs.EarlyLookups.{is_some_whole}
use Rattle.lf_logs.proofs.early.is_whole.Goals as goal

pub returns-then-not-is_empty : goal.returns-then-not-is_empty
returns-then-not-is_empty c = c.contains_key.ensures ∙ sym (is_some_whole c.args.whole.now.entries c.args.number)
