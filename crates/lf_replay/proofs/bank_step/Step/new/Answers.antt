use Rattle.std.proofs.Common.{rules}
use Rattle.lf_replay.proofs.bank_step.Step.new.Goals as goal

pub returns : goal.returns
returns c = search rules
