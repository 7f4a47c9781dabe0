use Rattle.std.proofs.Common.{sym, ap, ◌∙◌}
use Rattle.model_plain.proofs.BusyTags.{bank_in, busy_found}
use Rattle.model_plain.proofs.busy.owing_bank.Goals as goal

pub returns-in-Some : goal.returns-in-Some
returns-in-Some c = ap bank_in c.in-Some.ensures ∙ sym (busy_found c.args.busy.now c.args.port c.args.tag)

pub returns-in-None : goal.returns-in-None
returns-in-None c = ap bank_in c.in-None.ensures ∙ sym (busy_found c.args.busy.now c.args.port c.args.tag)
