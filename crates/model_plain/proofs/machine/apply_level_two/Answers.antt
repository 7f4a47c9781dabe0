use Rattle.model_plain.proofs.machine.apply_level_two.Goals as goal

pub returns-in-Fill2-clause-slice : goal.returns-in-Fill2-clause-slice
returns-in-Fill2-clause-slice c = λ memory. rw c.in-Fill2.is
    (c.fill2.ensures.slice memory c.args.item.now.log c.in-Fill2.bytes)

pub returns-in-SecondHit-clause-slice : goal.returns-in-SecondHit-clause-slice
returns-in-SecondHit-clause-slice c = λ memory. rw c.in-SecondHit.is
    (c.second_hit.ensures.slice c.args.shape.now memory c.args.item.now.log)

pub returns-in-SecondPrimary-clause-slice : goal.returns-in-SecondPrimary-clause-slice
returns-in-SecondPrimary-clause-slice c = λ memory. rw c.in-SecondPrimary.is
    (c.second_miss.ensures.primary memory c.args.item.now.log)

pub returns-in-Evict2-clause-slice : goal.returns-in-Evict2-clause-slice
returns-in-Evict2-clause-slice c = λ memory. rw c.in-Evict2.is
    (c.evict2.ensures.slice c.args.shape.now memory c.args.item.now.log c.in-Evict2.masks c.in-Evict2.bytes)

pub returns-in-SecondMerge-clause-slice : goal.returns-in-SecondMerge-clause-slice
returns-in-SecondMerge-clause-slice c = λ memory. rw c.in-SecondMerge.is
    (c.second_miss-in-SecondMerge.ensures.merge memory c.args.item.now.log)
