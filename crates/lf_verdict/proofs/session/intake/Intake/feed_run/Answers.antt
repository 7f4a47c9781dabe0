use Rattle.std.proofs.Common.{take}
use Rattle.lf_verdict.proofs.Feeding.{fed_nothing}
use Rattle.lf_verdict.proofs.Lent.{ran_on}
use Rattle.lf_verdict.proofs.session.intake.Intake.feed_run.Goals as goal

pub returns-in-Ok-clause-fed : goal.returns-in-Ok-clause-fed
returns-in-Ok-clause-fed c fed has =
    ran_on c.args.self.now c.in-Running.standing c.judge_run.new.standing c.judge_run.new.reader
    (take c.in-Ok.n c.args.bytes.now) fed c.requires.going c.in-Running.is c.in-Ok.ensures.judged c.in-Ok.ensures.fault
    has

pub returns-in_default-clause-fed : goal.returns-in_default-clause-fed
returns-in_default-clause-fed c fed has = fed_nothing c.args.self.now fed has
