use Rattle.std.proofs.Common.{◌≡◌, true, false, refl, sym, ap, ◌∙◌, subst}
use Rattle.lf_verdict.specs.Session.{CanTell}
use Rattle.lf_verdict.specs.declared.session.asked.Asked.{Asked}
use Rattle.lf_verdict.specs.declared.stop.Stop.TheVariants as stops
use Rattle.lf_verdict.specs.inner.Ahead.{session_of}
use Rattle.lf_verdict.proofs.Sessions.{going}
use Rattle.lf_verdict.proofs.Aheads.{still_going, none_ahead, own_fed, unwatched_going, idle_ahead, stopped_ahead}
use Rattle.lf_verdict.proofs.session.ahead.Ahead.broken.Goals as goal

pub broken-requires : goal.broken-requires
broken-requires g c =
    let a = c.args.self.now in
    let bytes = c.requires.fed.0 in
    (bytes, own_fed a bytes a.intake.stop c.requires.ahead refl (λ _. c.if-self.true) c.requires.fed.1)

pub returns-then-self-clause-found : goal.returns-then-self-clause-found
returns-then-self-clause-found g c bytes fed =
    let a = c.args.self.now in
    let own = own_fed a bytes a.intake.stop c.requires.ahead refl (λ _. c.if-self.true) fed in
    record {
      final = c.broken.ensures.stands bytes own;
      earliest = λ watched. c.broken.ensures.earliest c.requires.ahead.as_asked watched bytes own;
      named = λ unwatched. let e : true ≡ false = sym c.if-self.true ∙ unwatched in absurd (cc);
      none = λ can. c.broken.ensures.none (c.requires.ahead.settled c.if-self.true) can bytes own;
    }

pub returns-in_default-clause-found : goal.returns-in_default-clause-found
returns-in_default-clause-found g c bytes fed = record {
  final = tt;
  earliest = λ _. tt;
  named = λ _. tt;
  none = λ can. absurd (c.in_default.not-None
      (unwatched_going c.args.self.now.intake.asked c.args.self.now.intake.stop c.if-self.false can));
}

pub returns-in-Ok-clause-fed : goal.returns-in-Ok-clause-fed
returns-in-Ok-clause-fed g c bytes fed =
    let a = c.named.new.self in
    none_ahead a bytes c.in-Ok.ensures.alone c.in-Ok.ensures.ready
    (still_going a.intake bytes (c.in-Ok.ensures.stop ∙ c.in-None.is)
    (c.in-Ok.ensures.taken bytes (going (session_of c.args.self.now) bytes c.in-None.is fed)))

pub returns-in-Ok-clause-found : goal.returns-in-Ok-clause-found
returns-in-Ok-clause-found g c bytes fed =
    let taken = going (session_of c.args.self.now) bytes c.in-None.is fed in
    record {
      final = c.in-Ok.ensures.stands bytes taken;
      earliest = λ watched. let e : true ≡ false = sym watched ∙ c.if-self.false in absurd (cc);
      named = λ _. c.in-Ok.ensures.named bytes taken;
      none = λ _. c.in-Ok.ensures.none bytes taken;
    }

pub returns-in-Ok-clause-silent : goal.returns-in-Ok-clause-silent
returns-in-Ok-clause-silent g c silent =
    absurd (silent (subst (CanTell c.args.self.now.intake.asked) (sym (c.in-Ok.ensures.stop ∙ c.in-None.is)) tt))

pub returns-in-Ok-clause-ahead : goal.returns-in-Ok-clause-ahead
returns-in-Ok-clause-ahead g c =
    idle_ahead c.named.new.self c.in-Ok.ensures.alone c.in-Ok.ensures.ready c.in-Ok.ensures.as_asked
    (λ watched. let e : true ≡ false = sym watched ∙ ap (λ (a : Asked). a.watched) c.in-Ok.ensures.asked
    ∙ c.if-self.false in absurd (cc))

pub returns-in-Err-clause-ahead : goal.returns-in-Err-clause-ahead
returns-in-Err-clause-ahead g c =
    stopped_ahead c.stop_with.new.self stops.Memory c.stop_with.ensures.stopped c.stop_with.ensures.alone (λ can. can)
