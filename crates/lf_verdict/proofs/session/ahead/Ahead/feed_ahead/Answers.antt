use Rattle.std.proofs.Common.{◌++◌, sym, ◌∙◌, subst}
use Rattle.lf_verdict.specs.inner.Ahead.{session_of}
use Rattle.lf_verdict.specs.inner.Fed.{IsPlain}
use Rattle.lf_verdict.proofs.Aheads.{plain_stopped, plain_silent, stopped_ahead, plain_ahead}
use Rattle.lf_verdict.proofs.session.ahead.Ahead.feed_ahead.Goals as goal

pub returns-in-Err-clause-fed : goal.returns-in-Err-clause-fed
returns-in-Err-clause-fed g c bytes taken =
    plain_stopped (session_of c.stop_with.new.self) (bytes ++ c.args.piece.now) c.in-Err.stop
    c.stop_with.ensures.stopped
    (subst IsPlain (sym (c.stop_with.ensures.asked ∙ c.in-Err.ensures.asked)) c.requires.plain)
    (c.in-Err.ensures.stopped bytes taken)

pub returns-in-Ok-clause-ahead : goal.returns-in-Ok-clause-ahead
returns-in-Ok-clause-ahead g c =
    plain_ahead c.read_in_parts.new.self (subst IsPlain (sym c.in-Ok.ensures.asked) c.requires.plain)
    (c.in-Ok.ensures.stop ∙ c.requires.going) c.in-Ok.ensures.running c.in-Ok.ensures.workers

pub returns-in-Err-clause-ahead : goal.returns-in-Err-clause-ahead
returns-in-Err-clause-ahead g c =
    stopped_ahead c.stop_with.new.self c.in-Err.stop c.stop_with.ensures.stopped c.stop_with.ensures.alone
    (plain_silent c.stop_with.new.self.intake.asked c.in-Err.stop
    (subst IsPlain (sym (c.stop_with.ensures.asked ∙ c.in-Err.ensures.asked)) c.requires.plain))
