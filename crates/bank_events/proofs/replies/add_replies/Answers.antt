use Rattle.std.proofs.Common.{◌∙◌, sym, ap, refl, length, append-nil, arith}
use Rattle.std.proofs.lemmas.List.{length_push}
use Rattle.bank_events.proofs.Targets.{told_at, replies_more, replies_all}
use Rattle.bank_events.proofs.replies.add_replies.Goals as goal

pub loop-target-init : goal.loop-target-init
loop-target-init c = (λ held waiting block alike are. sym (append-nil c.args.ready.now.items), omega arith, refl)

pub reply_of-requires-clause-told : goal.reply_of-requires-clause-told
reply_of-requires-clause-told c =
    told_at c.args.shape.now c.requires.told.0 c.requires.told.1 c.requires.told.3 c.requires.told.2
    c.args.targets.now c.requires.told.4
    c.loop-target.target-index c.loop-target-item.result c.loop-target-test.true c.loop-target-item.is

pub push_reserved-requires : goal.push_reserved-requires
push_reserved-requires c =
    let room = c.requires.room in
    let long = c.loop-target.invariant.1 in
    let same = c.loop-target.invariant.2 in
    let more = c.loop-target-test.true in
    omega (arith, room, long, same, more)

pub loop-target-preserved : goal.loop-target-preserved
loop-target-preserved c =
    let long = c.loop-target.invariant.1 in
    let pushed = ap length c.push_reserved.ensures.items ∙ length_push c.loop-target.ready.items c.reply_of.result in (
      λ held waiting block alike are.
          replies_more c.args.shape.now held waiting alike block c.args.targets.now are c.loop-target.target-index
          c.loop-target-item.result c.reply_of.result
          _ _ _ c.loop-target-test.true c.loop-target-item.is c.reply_of.ensures
          (c.loop-target.invariant.0 held waiting block alike are) c.push_reserved.ensures.items,
      omega (arith, long, pushed),
      c.push_reserved.ensures.capacity ∙ c.loop-target.invariant.2,
    )

pub returns : goal.returns
returns c = λ held waiting block alike are.
    replies_all c.args.shape.now held waiting alike block c.args.targets.now are c.loop-target.target-index _ _
    (omega arith) (c.loop-target.invariant.0 held waiting block alike are)
