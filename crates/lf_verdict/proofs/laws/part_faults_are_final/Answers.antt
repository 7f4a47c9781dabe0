use Rattle.lf_verdict.proofs.Finals.{final}
use Rattle.lf_verdict.proofs.laws.part_faults_are_final.Goals as goal

pub returns : goal.returns
returns c = final c.exact_reading.ensures c.header_of_bytes.ensures
