use Rattle.lf_codec.proofs.Faults.{faults_stand}
use Rattle.lf_codec.proofs.laws.faults_stand.Goals as goal

pub returns : goal.returns
returns c = faults_stand
