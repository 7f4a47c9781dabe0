use Rattle.std.proofs.Common.{rules}
use Rattle.lf_replay.proofs.any_bank.AnyBankBankState.new.Goals as goal

pub new-requires-clause-suits : goal.new-requires-clause-suits
new-requires-clause-suits c = search rules
