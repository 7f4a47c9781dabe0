use Rattle.std.proofs.Common.{rules}
use Rattle.lf_mshr.proofs.inverted.InvertedOrganisation.room.Goals as goal

pub returns-then-destination-file-clause-value : goal.returns-then-destination-file-clause-value
returns-then-destination-file-clause-value g c = search rules

pub returns-then-destination-file-clause-exact : goal.returns-then-destination-file-clause-exact
returns-then-destination-file-clause-exact g c = search rules
