use Rattle.lf_rules.proofs.Orders.{skeletons_follow, logs_follow, entries_keep_alike}
use Rattle.lf_rules.proofs.laws.skeletons_follow.Goals as goal

pub returns-clause-skeletons : goal.returns-clause-skeletons
returns-clause-skeletons c = skeletons_follow

pub returns-clause-logs : goal.returns-clause-logs
returns-clause-logs c = logs_follow

pub returns-clause-numbers : goal.returns-clause-numbers
returns-clause-numbers c = entries_keep_alike
