use Rattle.explain_numbers.proofs.Chains.{waits_chain}
use Rattle.explain_numbers.proofs.laws.waits_are_chains.Goals as goal

pub returns : goal.returns
returns c = waits_chain
