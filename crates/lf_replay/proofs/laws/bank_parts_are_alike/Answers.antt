use Rattle.lf_replay.proofs.WholeMemory.{run_alike, break_alike}
use Rattle.lf_replay.proofs.laws.bank_parts_are_alike.Goals as goal

pub returns-clause-run : goal.returns-clause-run
returns-clause-run c = run_alike

pub returns-clause-broken : goal.returns-clause-broken
returns-clause-broken c = break_alike
