use Rattle.lf_codec.proofs.Faults.{faults_so_far_are_not_truncated, bytes_never_want_memory}
use Rattle.lf_codec.proofs.laws.fault_so_far.Goals as goal

pub returns-clause-other : goal.returns-clause-other
returns-clause-other c = faults_so_far_are_not_truncated

pub returns-clause-memory : goal.returns-clause-memory
returns-clause-memory c = bytes_never_want_memory
