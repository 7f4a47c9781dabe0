use Rattle.std.proofs.Common.{Option, sym, ◌∙◌, subst}
use Rattle.lf_rules.specs.declared.shape.Shape.{Shape}
use Rattle.lf_verdict.specs.declared.answer.Refusal.{Refusal}
use Rattle.lf_verdict.specs.declared.session.asked.Asked.{Asked}
use Rattle.lf_verdict.specs.declared.stop.Stop.{Stop}
use Rattle.lf_verdict.specs.Conclusion.{IsConclusion, refused_after}
use Rattle.lf_verdict.specs.inner.Fed.{HasFedUntil}
use Rattle.lf_verdict.specs.inner.Judged.{TellsFirst}
use Rattle.lf_verdict.proofs.Concluded.{conclusion_of, concluded, memory_concluded, stop_concluded}
use Rattle.lf_verdict.proofs.Aheads.{still_going}
use Rattle.lf_verdict.proofs.Sessions.{going, can_going, stop_in}
use Rattle.lf_verdict.proofs.session.intake.Intake.conclude.Goals as goal

pub returns-in-Some-clause-concluded : goal.returns-in-Some-clause-concluded
returns-in-Some-clause-concluded c =
    let s = c.args.self.now in
    let fed = c.args.fed in
    let broken = c.first_broken-before.result in
    subst (IsConclusion s.asked s.shape) (sym c.refused.ensures)
    (subst (λ (r : Refusal). IsConclusion s.asked s.shape (refused_after broken fed r)) (sym c.from.ensures)
    (stop_concluded c.exact_reading.ensures s.asked s.shape fed c.in-Some.stop broken
    (stop_in s fed.bytes c.in-Some.stop
    (subst (λ (stop : Option Stop). HasFedUntil s fed.bytes stop) c.in-Some.is c.requires.fed))
    (subst (λ (stop : Option Stop). TellsFirst s.asked s.shape fed.bytes stop broken) c.in-Some.is
    (c.first_broken-before.ensures fed.bytes c.requires.fed))))

pub returns-in-Err-clause-concluded : goal.returns-in-Err-clause-concluded
returns-in-Err-clause-concluded c =
    let s = c.args.self.now in
    subst (IsConclusion s.asked s.shape) (sym c.without_memory.ensures)
    (memory_concluded s.asked s.shape c.args.fed)

pub first_broken-before-requires-clause-fed : goal.first_broken-before-requires-clause-fed
first_broken-before-requires-clause-fed c = (c.args.fed.bytes, c.requires.fed)

pub first_broken-broken-requires-clause-fed : goal.first_broken-broken-requires-clause-fed
first_broken-broken-requires-clause-fed c =
    let bytes = c.args.fed.bytes in
    let taken = c.in_default-take_all.ensures in (
      bytes,
      still_going c.take_all.new.self bytes (taken.stop ∙ c.in_default.is)
          (taken.taken bytes (going c.args.self.now bytes c.in_default.is c.requires.fed)),
    )

pub first_broken-broken-requires-clause-as_asked : goal.first_broken-broken-requires-clause-as_asked
first_broken-broken-requires-clause-as_asked c can =
    c.in_default-take_all.ensures.as_asked (c.requires.as_asked (can_going c.args.self.now c.in_default.is))

pub first_broken-broken-requires-clause-settled : goal.first_broken-broken-requires-clause-settled
first_broken-broken-requires-clause-settled c watched can = c.in_default-take_all.ensures.drained

pub judged-outcome-requires-clause-taken : goal.judged-outcome-requires-clause-taken
judged-outcome-requires-clause-taken c =
    let bytes = c.args.fed.bytes in
    (bytes, c.in_default-take_all.ensures.taken bytes (going c.args.self.now bytes c.in_default.is c.requires.fed))

pub returns-clause-concluded : goal.returns-clause-concluded
returns-clause-concluded c =
    let s = c.args.self.now in
    let t = c.take_all.new.self in
    let taken = c.in_default-take_all.ensures in
    let fed = c.args.fed in
    let m = taken.taken fed.bytes (going s fed.bytes c.in_default.is c.requires.fed) in
    let does = taken.as_asked (c.requires.as_asked (can_going s c.in_default.is)) in
    let on = taken.stop ∙ c.in_default.is in
    let broken = c.first_broken-broken.result in
    let first = subst (λ (stop : Option Stop). TellsFirst t.asked t.shape fed.bytes stop broken) on
    (c.first_broken-broken.ensures fed.bytes (still_going t fed.bytes on m)) in
    let end = conclusion_of fed broken c.judged-outcome.result in
    subst (λ (asked : Asked). IsConclusion asked s.shape end) taken.asked
    (subst (λ (shape : Shape). IsConclusion t.asked shape end) taken.shape
    (concluded c.yes_is_legal.ensures c.no_has_no_run.ensures c.exact_reading.ensures t.shape t.asked fed
    broken c.judged-outcome.result m.1.read.are_bytes (c.judged-outcome.ensures.judged fed.bytes m) first
    c.judged-outcome.ensures.ordered
    (λ counted. c.judged-outcome.ensures.counted (does.counting counted))))
