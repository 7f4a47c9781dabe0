use Rattle.std.proofs.Common.{arith}
use Rattle.std.proofs.lemmas.Grind.{common_steps}
use Rattle.lf_replay.proofs.replays.replay.Goals as goal

pub replay_on-requires-clause-records : goal.replay_on-requires-clause-records
replay_on-requires-clause-records c = grind (arith, common_steps)

pub returns : goal.returns
returns c = grind (arith, common_steps)
