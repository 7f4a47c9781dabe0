use Rattle.std.proofs.Common.{◌++◌, take, sym}
use Rattle.lf_verdict.proofs.Feeding.{fed_more, fed_rest, told_going}
use Rattle.lf_verdict.proofs.session.intake.Intake.feed_part.Goals as goal

pub feed_step-requires-clause-fed : goal.feed_step-requires-clause-fed
feed_step-requires-clause-fed c = (
  c.requires.fed.0 ++ take c.in-Ok.n c.args.bytes.now,
  c.in-Ok.ensures.fed c.requires.fed.0 c.requires.fed.1,
)

pub feed_step-requires-clause-going : goal.feed_step-requires-clause-going
feed_step-requires-clause-going c =
    told_going c.args.self.now.stop c.feed_run.new.self.stop c.requires.going (sym c.in-Ok.ensures.told)

pub returns-in-Ok-feed_step-clause-fed : goal.returns-in-Ok-feed_step-clause-fed
returns-in-Ok-feed_step-clause-fed c fed has =
    fed_more c.feed_step.new.self fed c.args.bytes.now c.in-Ok.n c.in-Ok-feed_step.more
    (c.in-Ok-feed_step.ensures.fed (fed ++ take c.in-Ok.n c.args.bytes.now) (c.in-Ok.ensures.fed fed has))

pub returns-in-Err-feed_step-clause-fed : goal.returns-in-Err-feed_step-clause-fed
returns-in-Err-feed_step-clause-fed c fed has =
    fed_rest c.feed_step.new.self fed c.args.bytes.now c.in-Ok.n
    (c.in-Err-feed_step.ensures.fed (fed ++ take c.in-Ok.n c.args.bytes.now) (c.in-Ok.ensures.fed fed has))
