use Rattle.std.proofs.Common.{refl}
use Rattle.lf_join.proofs.RosterLemmas.{nobody}
use Rattle.lf_join.proofs.roster.Roster.empty.Goals as goal

pub returns : goal.returns
returns c = nobody 256 32 32 c.new.result c.new-2.result refl refl refl c.new.ensures c.new-2.ensures
