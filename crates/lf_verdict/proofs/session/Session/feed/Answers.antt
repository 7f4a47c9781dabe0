use Rattle.std.proofs.Common.{◌≡◌, ◌++◌, List, ℕ, None, Result, Ok, Err, refl, sym, ap, subst}
use Rattle.std.specs.Prelude.{OnOk, IfErr}
use Rattle.lf_codec.specs.declared.fault.Told.{Told}
use Rattle.lf_codec.specs.Reader.{fault_in}
use Rattle.lf_codec.specs.Reading.{fault_so_far}
use Rattle.lf_verdict.specs.declared.answer.Refusal.{Refusal}
use Rattle.lf_verdict.specs.declared.session.intake.Intake.{Intake}
use Rattle.lf_verdict.specs.Session.{stop_told, IsRefusalSoFar}
use Rattle.lf_verdict.specs.inner.Fed.{HasFed}
use Rattle.lf_verdict.proofs.Sessions.{fed_fine, fed_fault}
use Rattle.lf_verdict.proofs.session.Session.feed.Goals as goal

pub invariant_of-self : goal.invariant_of-self
invariant_of-self c = (
  subst (HasFed c.feed-answer.new.self) (sym c.add.ensures)
      (c.feed-answer.ensures.fed c.self.inside.fed.bytes c.self.invariant.0),
  (c.feed-answer.ensures.as_asked c.self.invariant.1.0, c.feed-answer.ensures.settled c.self.invariant.1.1),
)

pub returns-clause-fine : goal.returns-clause-fine
returns-clause-fine c = go c.feed-answer.result c.feed-answer.ensures.told
  where
    go : (r : Result (Unit {0}) (Told Refusal)) → r ≡ stop_told c.self.inside.intake.stop c.feed-answer.new.self.stop
        → OnOk r (fault_so_far c.add.new.self.bytes ≡ None)
    go (Ok tt) told = subst (λ (bytes : List ℕ). fault_so_far bytes ≡ None) (sym c.add.ensures)
        (fed_fine c.feed-answer.new.self (c.self.inside.fed.bytes ++ c.args.piece.now) c.self.inside.intake.stop
        c.feed-answer.new.self.stop refl told (c.feed-answer.ensures.fed c.self.inside.fed.bytes c.self.invariant.0))
    go (Err t) told = tt

pub returns-clause-fault : goal.returns-clause-fault
returns-clause-fault c = go c.feed-answer.result c.feed-answer.ensures.told
  where
    go : (r : Result (Unit {0}) (Told Refusal)) → r ≡ stop_told c.self.inside.intake.stop c.feed-answer.new.self.stop
        → IfErr r (λ t. IsRefusalSoFar c.add.new.self.bytes (fault_in t))
    go (Ok tt) told = tt
    go (Err t) told = subst (λ (bytes : List ℕ). IsRefusalSoFar bytes (fault_in t)) (sym c.add.ensures)
        (fed_fault c.feed-answer.new.self (c.self.inside.fed.bytes ++ c.args.piece.now) c.self.inside.intake.stop
        c.feed-answer.new.self.stop t refl
        (λ some. sym (ap (λ (s : Intake). s.stop) (c.feed-answer.ensures.failed some))) told
        (c.feed-answer.ensures.fed c.self.inside.fed.bytes c.self.invariant.0))
