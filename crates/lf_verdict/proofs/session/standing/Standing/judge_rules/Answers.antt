use Rattle.std.proofs.Common.{◌≡◌, List, length, map, subst, sym}
use Rattle.std.proofs.lemmas.List.{length-map}
use Rattle.lf_verdict.specs.declared.session.standing.port_judge.PortJudge.{PortJudge}
use Rattle.lf_verdict.specs.declared.session.standing.bank_judge.BankJudge.{BankJudge}
use Rattle.lf_rules.specs.declared.outcome.Outcome.{Outcome}
use Rattle.lf_verdict.specs.inner.Ending.{NoneBroken, IsFirstBroken}
use Rattle.lf_verdict.proofs.Outcomes.{port_fault, bank_fault, parts_run}
use Rattle.lf_verdict.proofs.Settled.{judged_parts}
use Rattle.lf_verdict.proofs.session.standing.Standing.judge_rules.Goals as goal

none_broken : {X : Type 0} (f : X → Outcome) (xs ys : List X) → ys ≡ xs → NoneBroken (map f ys) (length ys) →
    NoneBroken (map f xs) (length (map f xs))
none_broken f xs ys same none =
    subst (NoneBroken (map f xs)) (sym (length-map xs f)) (subst (λ zs. NoneBroken (map f zs) (length zs)) same none)

pub returns-in-Some-clause-fault : goal.returns-in-Some-clause-fault
returns-in-Some-clause-fault c shape memory records stands whole =
    port_fault shape memory _ stands.given _ _ (judged_parts shape memory records c.args.self.now stands whole)
    c.in-Some.field-0
    (subst (λ (js : List PortJudge). IsFirstBroken (map (λ (j : PortJudge). j.outcome) js) c.in-Some.field-0)
    c.deref.ensures.value c.in-Some.ensures.some)

pub returns-in-Some-first_broken-clause-fault : goal.returns-in-Some-first_broken-clause-fault
returns-in-Some-first_broken-clause-fault c shape memory records stands whole =
    bank_fault shape memory _ stands.given _ _ (judged_parts shape memory records c.args.self.now stands whole)
    (none_broken (λ (j : PortJudge). j.outcome) _ _ c.deref.ensures.value c.in_default.ensures.none)
    c.in-Some-first_broken.field-0
    (subst (λ (js : List BankJudge). IsFirstBroken (map (λ (j : BankJudge). j.outcome) js)
    c.in-Some-first_broken.field-0) c.deref-2.ensures.value c.in-Some-first_broken.ensures.some)

pub returns-clause-run : goal.returns-clause-run
returns-clause-run c shape memory records stands whole =
    parts_run shape memory _ stands.given _ _ (judged_parts shape memory records c.args.self.now stands whole)
    (none_broken (λ (j : PortJudge). j.outcome) _ _ c.deref.ensures.value c.in_default.ensures.none)
    (none_broken (λ (j : BankJudge). j.outcome) _ _ c.deref-2.ensures.value c.in_default-first_broken.ensures.none)
