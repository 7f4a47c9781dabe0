use Rattle.lf_rules.proofs.Flat.{runs_are_flat}
use Rattle.lf_rules.proofs.Once.{runs_answer_once}
use Rattle.lf_rules.proofs.Shared.{runs_share}
use Rattle.lf_rules.proofs.laws.runs_are_right.Goals as goal

pub returns-clause-once : goal.returns-clause-once
returns-clause-once c = runs_answer_once

pub returns-clause-sharing : goal.returns-clause-sharing
returns-clause-sharing c = runs_share

pub returns-clause-flat : goal.returns-clause-flat
returns-clause-flat c = runs_are_flat
