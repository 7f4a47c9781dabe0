use Rattle.lf_rules.proofs.Permuted.{interleavings_fit}
use Rattle.lf_rules.proofs.Numbered.{interleavings_are_numbered}
use Rattle.lf_rules.proofs.laws.interleavings_are_numbered.Goals as goal

pub returns-clause-fit : goal.returns-clause-fit
returns-clause-fit c = interleavings_fit

pub returns-clause-numbered : goal.returns-clause-numbered
returns-clause-numbered c = interleavings_are_numbered
