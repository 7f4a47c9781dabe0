use Rattle.run_engine.proofs.Watches.{watches_are_one}
use Rattle.run_engine.proofs.laws.watches_are_one.Goals as goal

pub returns : goal.returns
returns c = watches_are_one c.one_is_earliest.ensures.one c.one_is_earliest.ensures.stays
    c.one_is_earliest.ensures.behind c.verdicts_are_one.ensures.outcome c.fault_so_far.ensures.other
    c.faults_stand.ensures
