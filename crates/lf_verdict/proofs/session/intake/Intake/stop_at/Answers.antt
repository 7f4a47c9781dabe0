use Rattle.std.proofs.Common.{◌≡◌, Some, true, false, refl, sym, ◌∙◌, subst}
use Rattle.lf_verdict.specs.declared.session.intake.Intake.{Intake}
use Rattle.lf_verdict.specs.Session.{CanTell}
use Rattle.lf_verdict.specs.inner.Fed.{HasTaken, HasFed}
use Rattle.lf_verdict.proofs.Sessions.{can_taken, stop_taken}
use Rattle.lf_verdict.proofs.session.intake.Intake.stop_at.Goals as goal

pub returns-then-not-can_tell-clause-fed : goal.returns-then-not-can_tell-clause-fed
returns-then-not-can_tell-clause-fed c bytes at =
    subst (λ (t : Intake). HasFed t bytes) (sym c.stop_with-told.ensures.stopped) at

pub returns-then-not-can_tell-clause-settled : goal.returns-then-not-can_tell-clause-settled
returns-then-not-can_tell-clause-settled c can =
    let e : true ≡ false = sym (c.can_tell.ensures.1 can) ∙ c.if-not-can_tell.true in absurd (cc)

pub take_all-requires : goal.take_all-requires
take_all-requires c =
    let bytes = c.requires.0 in
    let s : Intake = record c.args.self.now { stop = Some c.args.stop } in
    let can = subst (λ (t : Intake). CanTell t.asked t.stop) c.stop_with-told.ensures.stopped
    (c.can_tell.ensures.0 c.if-not-can_tell.false) in (
      bytes,
      subst (λ (t : Intake). HasTaken t bytes) (sym c.stop_with-told.ensures.stopped)
          (can_taken s bytes (Some c.args.stop) can c.requires.1),
    )

pub returns-in-Ok-clause-fed : goal.returns-in-Ok-clause-fed
returns-in-Ok-clause-fed c bytes at =
    let s : Intake = record c.args.self.now { stop = Some c.args.stop } in
    let can = subst (λ (t : Intake). CanTell t.asked t.stop) c.stop_with-told.ensures.stopped
    (c.can_tell.ensures.0 c.if-not-can_tell.false) in
    let taken = subst (λ (t : Intake). HasTaken t bytes) (sym c.stop_with-told.ensures.stopped)
    (can_taken s bytes (Some c.args.stop) can at) in
    stop_taken s c.take_all.new.self bytes c.args.stop (c.in-Ok.ensures.stop
    ∙ subst (λ (t : Intake). t.stop ≡ Some c.args.stop) (sym c.stop_with-told.ensures.stopped) refl) at
    (c.in-Ok.ensures.taken bytes taken)
