use Rattle.std.proofs.Common.{sym, ap, ◌∙◌}
use Rattle.bank_state.proofs.Finds.{asked_found, register_in}
use Rattle.bank_state.proofs.lists.asked_register.Goals as goal

pub returns-in-Some : goal.returns-in-Some
returns-in-Some c = ap register_in c.in-Some.ensures ∙ sym (asked_found c.args.asked.now c.args.block)

pub returns-in-None : goal.returns-in-None
returns-in-None c = ap register_in c.in-None.ensures ∙ sym (asked_found c.args.asked.now c.args.block)
