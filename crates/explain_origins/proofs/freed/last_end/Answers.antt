use Rattle.std.proofs.Common.{◌≡◌, ◌+◌, List, [], ◌∷◌, Option, ℕ, Some, None, drop}
use Rattle.std.proofs.Common.{arith, sym, ap, ◌∙◌}
use Rattle.std.specs.Prelude.{slice_get}
use Rattle.std.proofs.lemmas.List.{drop_more, drop_all}
use Rattle.explain_origins.specs.declared.requests.IssuedRequest.{IssuedRequest}
use Rattle.explain_origins.specs.declared.standing.Begun.{Begun}
use Rattle.explain_origins.specs.declared.standing.Origin.{Origin}
use Rattle.explain_origins.specs.Freed.{origins_with, end_after, last_end}
use Rattle.explain_origins.specs.Kept.{kept_after}
use Rattle.explain_origins.specs.Origins.{Step, steps, begun_at, ended_at}
use Rattle.explain_origins.specs.Parts.{begun, ended}
use Rattle.explain_origins.specs.Requests.{Queues, accepted, none_waits, origin_of, queue_at}
use Rattle.explain_origins.proofs.FreedLemmas.{end_step, end_none}
use Rattle.explain_origins.proofs.Steps.{step_of, steps_none}
use Rattle.explain_origins.proofs.freed.last_end.Goals as goal

pub loop-at-init : goal.loop-at-init
loop-at-init c =
    let shape = c.args.shape.now in
    let part = c.args.part in
    let rs = c.args.records.now.records in
    let places = c.args.before.now in
    ap (λ (qs : Queues). last_end shape part c.new-open.result.items c.new-last.result.items
    (steps shape qs rs places)) c.in_ok-requests.ensures
    ∙ ap (λ (kept : List Begun). last_end shape part kept c.new-last.result.items
    (steps shape none_waits rs places)) c.new-open.ensures.items
    ∙ ap (λ (last : List Origin). last_end shape part [] last (steps shape none_waits rs places))
    c.new-last.ensures.items

pub loop-at-preserved-in_default-record_at : goal.loop-at-preserved-in_default-record_at
loop-at-preserved-in_default-record_at c =
    let shape = c.args.shape.now in
    let rs = c.args.records.now.records in
    let queues = queue_at c.loop-at.requests in
    let next = drop (c.loop-at.at-index + 1) c.args.before.now in
    let none : slice_get rs c.in-Some.place ≡ None = c.in_default-record_at.ensures in
    let here : drop c.loop-at.at-index c.args.before.now ≡ Some c.in-Some.place ∷ next =
    drop_more c.args.before.now c.loop-at.at-index None (omega (arith, c.loop-at-test.true))
    ∙ ap (λ (at : Option ℕ). at ∷ next) c.in-Some.is in
    ap (λ (ss : List Step). last_end shape c.args.part c.loop-at.open.items c.loop-at.last.items ss)
    (sym (ap (steps shape queues rs) here ∙ steps_none shape queues rs c.in-Some.place next none))
    ∙ c.loop-at.invariant

pub loop-at-preserved : goal.loop-at-preserved
loop-at-preserved c =
    let shape = c.args.shape.now in
    let part = c.args.part in
    let rs = c.args.records.now.records in
    let queues = queue_at c.loop-at.requests in
    let kept = c.loop-at.open.items in
    let last = c.loop-at.last.items in
    let place = c.in-Some.place in
    let r = c.in-Some-record_at.item.now in
    let s = step_of queues place r in
    let next = drop (c.loop-at.at-index + 1) c.args.before.now in
    let item : slice_get rs place ≡ Some r = c.in-Some-record_at.ensures in
    let here : drop c.loop-at.at-index c.args.before.now ≡ Some place ∷ next =
    drop_more c.args.before.now c.loop-at.at-index None (omega (arith, c.loop-at-test.true))
    ∙ ap (λ (at : Option ℕ). at ∷ next) c.in-Some.is in
    let request : c.accepted_by-request.result ≡ accepted queues r.event = c.accepted_by-request.ensures in
    let origin : c.origin_of-origin.result ≡ origin_of place (accepted queues r.event) =
    c.origin_of-origin.ensures ∙ ap (origin_of place) request in
    let begins : c.begun-begun.result ≡ begun_at shape part s =
    c.begun-begun.ensures ∙ ap (λ (q : Option IssuedRequest). begun shape part place q r) request in
    let ends : c.ended-ended.result ≡ ended_at part s =
    c.ended-ended.ensures ∙ ap (λ (q : Option IssuedRequest). ended part q r) request in
    let kept_is =
    c.in_ok-keep.ensures
    ∙ ap (λ (o : Origin). kept_after o c.begun-begun.result c.ended-ended.result kept) origin
    ∙ ap (λ (b : Option ℕ). kept_after (origin_of place (accepted queues r.event)) b c.ended-ended.result kept) begins
    ∙ ap (λ (e : Option ℕ). kept_after (origin_of place (accepted queues r.event)) (begun_at shape part s) e kept)
    ends in
    let last_is = c.in_ok-last.ensures
    ∙ ap (end_after last c.origin_of-origin.result) (c.in_ok-origins_with.ensures
    ∙ ap (origins_with c.ended-ended.result) c.deref.ensures.value
    ∙ ap (λ (e : Option ℕ). origins_with e kept) ends)
    ∙ ap (λ (o : Origin). end_after last o (origins_with (ended_at part s) kept)) origin in
    end_step shape part queues _ rs place r next kept c.keep.new.standing.items last _ _ item
    c.in_ok-note.ensures kept_is last_is
    (ap (λ (ps : List (Option ℕ)). last_end shape part kept last (steps shape queues rs ps)) (sym here)
    ∙ c.loop-at.invariant)

pub returns : goal.returns
returns c =
    let none : drop c.loop-at.at-index c.args.before.now ≡ [] =
    drop_all c.loop-at.at-index c.args.before.now (omega (arith, c.loop-at-test.false)) in
    end_none c.args.shape.now c.args.part (queue_at c.loop-at.requests) c.args.records.now.records _
    c.loop-at.open.items c.loop-at.last.items _ none c.loop-at.invariant
