use Rattle.lf_codec.proofs.Faults.{what_stands_before_is_given}
use Rattle.lf_codec.proofs.Spelled.{what_stands_before_is_spelled}
use Rattle.lf_codec.proofs.laws.before_a_fault.Goals as goal

pub returns-clause-given : goal.returns-clause-given
returns-clause-given c = what_stands_before_is_given

pub returns-clause-spelled : goal.returns-clause-spelled
returns-clause-spelled c = what_stands_before_is_spelled
