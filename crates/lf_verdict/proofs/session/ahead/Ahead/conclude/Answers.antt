use Rattle.std.proofs.Common.{◌≡◌, Some, None, refl, sym, ap, ◌∙◌, subst}
use Rattle.lf_rules.specs.declared.shape.Shape.{Shape}
use Rattle.lf_verdict.specs.declared.session.asked.Asked.{Asked}
use Rattle.lf_verdict.specs.Conclusion.{IsConclusion}
use Rattle.lf_verdict.specs.inner.Ahead.{session_of}
use Rattle.lf_verdict.proofs.Aheads.{own_fed, still_going}
use Rattle.lf_verdict.proofs.Concluded.{memory_concluded}
use Rattle.lf_verdict.proofs.Sessions.{going}
use Rattle.lf_verdict.proofs.session.ahead.Ahead.conclude.Goals as goal

pub conclude-requires-clause-fed : goal.conclude-requires-clause-fed
conclude-requires-clause-fed g c =
    let a = c.args.self.now in
    own_fed a c.args.fed.bytes a.intake.stop c.requires.ahead refl
    (λ none. let e : Some c.in-Some.field-0 ≡ None = sym c.in-Some.is ∙ none in absurd (cc)) c.requires.fed

pub conclude-requires-in-Ok-clause-fed : goal.conclude-requires-in-Ok-clause-fed
conclude-requires-in-Ok-clause-fed g c =
    let bytes = c.args.fed.bytes in
    still_going c.settle.new.self.intake bytes (c.in-Ok.ensures.stop ∙ c.in_default.is)
    (c.in-Ok.ensures.taken bytes (going (session_of c.args.self.now) bytes c.in_default.is c.requires.fed))

pub conclude-requires-in-Ok-clause-settled : goal.conclude-requires-in-Ok-clause-settled
conclude-requires-in-Ok-clause-settled g c watched =
    c.in-Ok.ensures.settled (ap (λ (asked : Asked). asked.watched) (sym c.in-Ok.ensures.asked) ∙ watched)

pub returns-in-Ok-clause-concluded : goal.returns-in-Ok-clause-concluded
returns-in-Ok-clause-concluded g c =
    let s = c.args.self.now.intake in
    let t = c.settle.new.self.intake in
    subst (λ (asked : Asked). IsConclusion asked s.shape c.conclude-in-Ok.result) c.in-Ok.ensures.asked
    (subst (λ (shape : Shape). IsConclusion t.asked shape c.conclude-in-Ok.result) c.in-Ok.ensures.shape
    c.conclude-in-Ok.ensures.concluded)

pub returns-in-Err-clause-concluded : goal.returns-in-Err-clause-concluded
returns-in-Err-clause-concluded g c =
    let s = c.args.self.now.intake in
    subst (IsConclusion s.asked s.shape) (sym c.without_memory.ensures) (memory_concluded s.asked s.shape c.args.fed)
