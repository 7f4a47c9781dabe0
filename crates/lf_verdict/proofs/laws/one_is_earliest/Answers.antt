use Rattle.lf_verdict.proofs.Firsts.{one_is_earliest, earliest_stays, none_behind}
use Rattle.lf_verdict.proofs.laws.one_is_earliest.Goals as goal

pub returns-clause-one : goal.returns-clause-one
returns-clause-one c = one_is_earliest

pub returns-clause-stays : goal.returns-clause-stays
returns-clause-stays c shape bytes more found are are_more =
    earliest_stays c.read_so_far.ensures c.header_of_bytes.ensures shape bytes more are are_more found

pub returns-clause-behind : goal.returns-clause-behind
returns-clause-behind c = none_behind c.faults_stand.ensures
