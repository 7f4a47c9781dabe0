use Rattle.std.proofs.Common.{rules}
use Rattle.lf_mshr.proofs.inverted.InvertedOrganisation.new.Goals as goal

pub returns : goal.returns
returns g c = search rules
