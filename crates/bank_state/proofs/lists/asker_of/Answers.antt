use Rattle.std.proofs.Common.{Some, None}
use Rattle.bank_state.proofs.Finds.{entry_told}
use Rattle.bank_state.proofs.lists.asker_of.Goals as goal

pub returns-in-Some : goal.returns-in-Some
returns-in-Some c = entry_told c.args.asked.now c.args.block (Some c.in-Some.entry.now) c.in-Some.ensures

pub returns-in-None : goal.returns-in-None
returns-in-None c = entry_told c.args.asked.now c.args.block None c.in-None.ensures
