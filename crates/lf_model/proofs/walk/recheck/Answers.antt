use Rattle.std.proofs.Common.{◌≡◌, List, ap, ◌∙◌, arith}
use Rattle.lf_rules.specs.declared.event.Record.{Record}
use Rattle.lf_model.specs.declared.outcome.Recheck.{Recheck}
use Rattle.lf_rules.specs.Address.{flat_memory}
use Rattle.lf_model.specs.Walk.{count_left, walked}
use Rattle.lf_model.specs.Recheck.{lists_of, IsRecheck}
use Rattle.lf_model.proofs.Rechecks.{few_left, if_ok_more, short_at, recheck_tells}
use Rattle.lf_model.proofs.walk.recheck.Goals as goal

pub follow-requires-clause-short : goal.follow-requires-clause-short
follow-requires-clause-short c = short_at c.args.logs.now.items c.requires.short

pub follow-requires-clause-few : goal.follow-requires-clause-few
follow-requires-clause-few c =
    let all = few_left c.args.logs.now.items c.requires.short in
    let same = ap (λ (l : List (List Record)). count_left l) c.in_ok-walk.ensures.left in
    omega (arith, all, same, c.requires.few)

pub returns : goal.returns
returns c =
    let shape = c.args.shape.now in
    let memory = flat_memory c.args.memory.now.items in
    let logs = lists_of c.args.logs.now in
    if_ok_more (λ (answer : Recheck). answer ≡ walked c.in_ok-walk.walk logs 0 c.args.order.now)
    (IsRecheck shape memory logs c.args.order.now) c.follow.result
    (λ answer e. recheck_tells shape memory logs c.args.order.now answer c.requires.named
    (e ∙ c.in_ok-walk.ensures.answer c.args.order.now)) c.follow.ensures
