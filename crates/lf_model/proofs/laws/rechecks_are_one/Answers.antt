use Rattle.lf_model.proofs.Rechecks.{rechecks_are_one}
use Rattle.lf_model.proofs.laws.rechecks_are_one.Goals as goal

pub returns : goal.returns
returns c = rechecks_are_one
