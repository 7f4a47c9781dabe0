use Rattle.std.proofs.Common.{List, length, map, subst}
use Rattle.std.proofs.lemmas.List.{map-id}
use Rattle.lf_rules.specs.declared.outcome.Outcome.{Outcome}
use Rattle.lf_rules.specs.Address.{flat_memory}
use Rattle.lf_rules.specs.Lists.{lists_of}
use Rattle.lf_verdict.specs.inner.Ending.{IsFirstBroken, NoneBroken}
use Rattle.lf_verdict.proofs.Outcomes.{judged, port_fault, bank_fault, parts_run}
use Rattle.lf_verdict.proofs.pool.outcomes.judge_outcomes.Goals as goal

none_of : (all : List Outcome) → NoneBroken (map (λ (o : Outcome). o) all) (length all) → NoneBroken all (length all)
none_of all none = subst (λ (os : List Outcome). NoneBroken os (length all)) (map-id all) none

pub returns-in-Some-clause-fault : goal.returns-in-Some-clause-fault
returns-in-Some-clause-fault c =
    let jobs = c.args.jobs.now in
    port_fault jobs.shape (flat_memory jobs.memory.items) (lists_of jobs.logs) _ _ _
    (judged jobs c.args.outcomes.now _ _ c.requires.ready c.requires.whole c.requires.outcomes c.if-ran_out.ensures
    c.split_at.ensures.front c.split_at.ensures.back)
    c.in-Some.field-0 (subst (λ (all : List Outcome). IsFirstBroken all c.in-Some.field-0) (map-id _)
    c.in-Some.ensures.some)

pub returns-in-Some-first_broken-clause-fault : goal.returns-in-Some-first_broken-clause-fault
returns-in-Some-first_broken-clause-fault c =
    let jobs = c.args.jobs.now in
    bank_fault jobs.shape (flat_memory jobs.memory.items) (lists_of jobs.logs) _ _ _
    (judged jobs c.args.outcomes.now _ _ c.requires.ready c.requires.whole c.requires.outcomes c.if-ran_out.ensures
    c.split_at.ensures.front c.split_at.ensures.back)
    (none_of _ c.in_default.ensures.none) c.in-Some-first_broken.field-0
    (subst (λ (all : List Outcome). IsFirstBroken all c.in-Some-first_broken.field-0) (map-id _)
    c.in-Some-first_broken.ensures.some)

pub returns-clause-run : goal.returns-clause-run
returns-clause-run c =
    let jobs = c.args.jobs.now in
    parts_run jobs.shape (flat_memory jobs.memory.items) (lists_of jobs.logs) _ _ _
    (judged jobs c.args.outcomes.now _ _ c.requires.ready c.requires.whole c.requires.outcomes c.if-ran_out.ensures
    c.split_at.ensures.front c.split_at.ensures.back)
    (none_of _ c.in_default.ensures.none) (none_of _ c.in_default-first_broken.ensures.none)
