use Rattle.std.proofs.Common.{◌++◌, Option, sym, subst, arith}
use Rattle.lf_verdict.specs.declared.stop.Stop.{Stop}
use Rattle.lf_verdict.specs.inner.Ahead.{session_of}
use Rattle.lf_verdict.specs.inner.Fed.{HasFedUntil}
use Rattle.lf_verdict.proofs.Sessions.{going, stop_stays}
use Rattle.lf_verdict.proofs.session.ahead.Ahead.feed.Goals as goal

pub returns-in-Some-clause-fed : goal.returns-in-Some-clause-fed
returns-in-Some-clause-fed g c bytes fed =
    let s = session_of c.args.self.now in
    let piece = c.args.piece.now in
    let at = subst (λ (stop : Option Stop). HasFedUntil s bytes stop) c.in-Some.is fed in
    subst (λ (stop : Option Stop). HasFedUntil s (bytes ++ piece) stop) (sym c.in-Some.is)
    (stop_stays c.faults_stand.ensures s bytes piece c.in-Some.stop (λ i. omega (arith, c.type_inv.piece i)) at)

pub returns-then-is_running-clause-fed : goal.returns-then-is_running-clause-fed
returns-then-is_running-clause-fed g c bytes fed = c.feed_ahead.ensures.fed bytes
    (going (session_of c.args.self.now) bytes c.in_default.is fed)

pub returns-clause-fed : goal.returns-clause-fed
returns-clause-fed g c bytes fed = c.feed_alone.ensures.fed bytes
    (going (session_of c.args.self.now) bytes c.in_default.is fed)
