use Rattle.std.proofs.Common.{◌++◌, Option, take, refl, sym, ◌∙◌, subst, arith}
use Rattle.lf_verdict.specs.declared.stop.Stop.{Stop}
use Rattle.lf_verdict.specs.inner.Fed.{HasFedUntil}
use Rattle.lf_verdict.proofs.Feeding.{fed_nothing, fed_more, fed_rest, fed_all, rest_len, told_going}
use Rattle.lf_verdict.proofs.Sessions.{stop_stays}
use Rattle.lf_verdict.proofs.session.intake.Intake.feed.Goals as goal

pub returns-in-Some-clause-fed : goal.returns-in-Some-clause-fed
returns-in-Some-clause-fed c bytes fed =
    let s = c.args.self.now in
    let piece = c.args.piece.now in
    let at = subst (λ (stop : Option Stop). HasFedUntil s bytes stop) c.in-Some.is fed in
    subst (λ (stop : Option Stop). HasFedUntil s (bytes ++ piece) stop) (sym c.in-Some.is)
    (stop_stays c.faults_stand.ensures s bytes piece c.in-Some.stop (λ i. omega (arith, c.type_inv.piece i)) at)

pub loop-at-init : goal.loop-at-init
loop-at-init c = record {
  within = omega arith;
  shape = refl;
  asked = refl;
  going = c.in_default.is;
  as_asked = λ does. does;
  settled = λ settled. settled;
  fed = λ bytes fed. fed_nothing c.args.self.now bytes fed;
}

pub feed_part-requires-clause-fed : goal.feed_part-requires-clause-fed
feed_part-requires-clause-fed c = (
  c.requires.0 ++ take c.loop-at.at c.args.piece.now,
  c.loop-at.invariant.fed
      c.requires.0 c.requires.1,
)

pub loop-at-preserved : goal.loop-at-preserved
loop-at-preserved c = record {
  within = omega (arith, c.in-Ok.ensures.some.0, rest_len c.args.piece.now c.loop-at.at, c.loop-at.invariant.within);
  shape = c.in-Ok.ensures.shape ∙ c.loop-at.invariant.shape;
  asked = c.in-Ok.ensures.asked ∙ c.loop-at.invariant.asked;
  going = told_going c.loop-at.self.stop c.feed_part.new.self.stop c.loop-at.invariant.going
      (sym c.in-Ok.ensures.told);
  as_asked = λ does. c.in-Ok.ensures.as_asked (c.loop-at.invariant.as_asked does);
  settled = λ _. c.in-Ok.ensures.settled;
  fed = λ bytes fed. fed_more c.feed_part.new.self bytes c.args.piece.now c.loop-at.at c.in-Ok.n
      (c.in-Ok.ensures.fed (bytes ++ take c.loop-at.at c.args.piece.now) (c.loop-at.invariant.fed bytes fed));
}

pub returns-in-Err-clause-fed : goal.returns-in-Err-clause-fed
returns-in-Err-clause-fed c bytes fed =
    fed_rest c.feed_part.new.self bytes c.args.piece.now c.loop-at.at
    (c.in-Err.ensures.fed (bytes ++ take c.loop-at.at c.args.piece.now) (c.loop-at.invariant.fed bytes fed))

pub returns-clause-fed : goal.returns-clause-fed
returns-clause-fed c bytes fed = fed_all c.loop-at.self bytes c.args.piece.now c.loop-at.at (omega arith)
    (c.loop-at.invariant.fed bytes fed)
