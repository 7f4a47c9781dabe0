use Rattle.lf_rules.proofs.Numbered.{numbered_is_one, numbered_is_whole}
use Rattle.lf_rules.proofs.laws.numbers_are_whole.Goals as goal

pub returns-clause-one : goal.returns-clause-one
returns-clause-one c = numbered_is_one

pub returns-clause-whole : goal.returns-clause-whole
returns-clause-whole c = numbered_is_whole
