use Rattle.std.proofs.Common.{◌≡◌, ◌+◌, List, [], ◌∷◌, Option, ℕ, Some, None, drop}
use Rattle.std.proofs.Common.{arith, sym, ap, ◌∙◌}
use Rattle.std.specs.Prelude.{slice_get}
use Rattle.std.proofs.lemmas.List.{drop_more, drop_all}
use Rattle.std.proofs.lemmas.Result.{IfOk-weaker}
use Rattle.explain_origins.specs.declared.requests.IssuedRequest.{IssuedRequest}
use Rattle.explain_origins.specs.declared.standing.Begun.{Begun}
use Rattle.explain_origins.specs.declared.standing.Origin.{Origin}
use Rattle.explain_origins.specs.Kept.{begun_by, kept_after}
use Rattle.explain_origins.specs.Origins.{Step, steps, begun_at, ended_at}
use Rattle.explain_origins.specs.Parts.{begun, ended}
use Rattle.explain_origins.specs.Requests.{Queues, accepted, none_waits, origin_of, queue_at}
use Rattle.explain_origins.proofs.Steps.{step_of, steps_none}
use Rattle.explain_origins.proofs.ToCome.{told_and_to_come, kept_step, at_end}
use Rattle.explain_origins.proofs.standing.origins_standing.Goals as goal

pub loop-at-init : goal.loop-at-init
loop-at-init c =
    let shape = c.args.shape.now in
    let part = c.args.part in
    let rs = c.args.records.now.records in
    let places = c.args.before.now in
    ap (λ (qs : Queues). told_and_to_come shape part c.new-open.result.items (steps shape qs rs places))
    c.in_ok-requests.ensures
    ∙ ap (λ (kept : List Begun). told_and_to_come shape part kept (steps shape none_waits rs places))
    c.new-open.ensures.items

pub loop-at-preserved-in_default-record_at : goal.loop-at-preserved-in_default-record_at
loop-at-preserved-in_default-record_at c =
    let shape = c.args.shape.now in
    let rs = c.args.records.now.records in
    let queues = queue_at c.loop-at.requests in
    let next = drop (c.loop-at.at-index + 1) c.args.before.now in
    let none : slice_get rs c.in-Some.place ≡ None = c.in_default-record_at.ensures in
    let here : drop c.loop-at.at-index c.args.before.now ≡ Some c.in-Some.place ∷ next =
    drop_more c.args.before.now c.loop-at.at-index None (omega (arith, c.loop-at-test.true))
    ∙ ap (λ (at : Option ℕ). at ∷ next) c.in-Some.is in
    ap (λ (ss : List Step). told_and_to_come shape c.args.part c.loop-at.open.items ss)
    (sym (ap (steps shape queues rs) here ∙ steps_none shape queues rs c.in-Some.place next none))
    ∙ c.loop-at.invariant

pub loop-at-preserved : goal.loop-at-preserved
loop-at-preserved c =
    let shape = c.args.shape.now in
    let part = c.args.part in
    let rs = c.args.records.now.records in
    let queues = queue_at c.loop-at.requests in
    let kept = c.loop-at.open.items in
    let place = c.in-Some.place in
    let r = c.in-Some-record_at.item.now in
    let s = step_of queues place r in
    let next = drop (c.loop-at.at-index + 1) c.args.before.now in
    let item : slice_get rs place ≡ Some r = c.in-Some-record_at.ensures in
    let here : drop c.loop-at.at-index c.args.before.now ≡ Some place ∷ next =
    drop_more c.args.before.now c.loop-at.at-index None (omega (arith, c.loop-at-test.true))
    ∙ ap (λ (at : Option ℕ). at ∷ next) c.in-Some.is in
    let request : c.accepted_by-request.result ≡ accepted queues r.event = c.accepted_by-request.ensures in
    let origin : c.origin_of-origin.result ≡ origin_of place (accepted queues r.event) =
    c.origin_of-origin.ensures ∙ ap (origin_of place) request in
    let begins : c.begun-begun.result ≡ begun_at shape part s =
    c.begun-begun.ensures ∙ ap (λ (q : Option IssuedRequest). begun shape part place q r) request in
    let ends : c.ended-ended.result ≡ ended_at part s =
    c.ended-ended.ensures ∙ ap (λ (q : Option IssuedRequest). ended part q r) request in
    let kept_is =
    c.in_ok-keep.ensures
    ∙ ap (λ (o : Origin). kept_after o c.begun-begun.result c.ended-ended.result kept) origin
    ∙ ap (λ (b : Option ℕ). kept_after (origin_of place (accepted queues r.event)) b c.ended-ended.result kept) begins
    ∙ ap (λ (e : Option ℕ). kept_after (origin_of place (accepted queues r.event)) (begun_at shape part s) e kept)
    ends in
    kept_step shape part queues _ rs place r next kept c.keep.new.standing.items _ item c.in_ok-note.ensures kept_is
    (ap (λ (ps : List (Option ℕ)). told_and_to_come shape part kept (steps shape queues rs ps)) (sym here)
    ∙ c.loop-at.invariant)

pub returns : goal.returns
returns c =
    let shape = c.args.shape.now in
    let kept = c.loop-at.open.items in
    let none : drop c.loop-at.at-index c.args.before.now ≡ [] =
    drop_all c.loop-at.at-index c.args.before.now (omega (arith, c.loop-at-test.false)) in
    IfOk-weaker c.begun_by.result _ _
    (λ all e. e ∙ ap begun_by c.deref.ensures.value
    ∙ at_end shape c.args.part (queue_at c.loop-at.requests) c.args.records.now.records _ kept _ none
    c.loop-at.invariant)
    c.begun_by.ensures
