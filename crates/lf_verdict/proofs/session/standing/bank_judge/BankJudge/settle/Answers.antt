use Rattle.std.proofs.Common.{refl}
use Rattle.lf_verdict.proofs.session.standing.bank_judge.BankJudge.settle.Goals as goal

pub returns-then-is_empty-clause-settles : goal.returns-then-is_empty-clause-settles
returns-then-is_empty-clause-settles c shape memory bank came gave judged =
    (gave, record { bank_judged = judged; drained = c.if-is_empty.ensures.none refl came gave judged.ordered })
