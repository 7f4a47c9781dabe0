use Rattle.lf_join.proofs.Reached.{entry_stays}
use Rattle.lf_join.proofs.laws.entries_stay.Goals as goal

pub returns : goal.returns
returns c = entry_stays
