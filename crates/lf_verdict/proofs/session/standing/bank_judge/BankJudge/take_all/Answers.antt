use Rattle.lf_verdict.proofs.session.standing.bank_judge.BankJudge.take_all.Goals as goal

pub returns-in-Ok : goal.returns-in-Ok
returns-in-Ok c shape memory came fits judged fine =
    let settled = judged c.in_default.not-NoMemory in
    c.in-Ok.ensures shape memory came settled.0 fits settled.1
