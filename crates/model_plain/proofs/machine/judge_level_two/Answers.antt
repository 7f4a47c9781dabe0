use Rattle.model_plain.specs.Plain.{slice_of}
use Rattle.model_plain.proofs.machine.judge_level_two.Goals as goal

pub returns-in-SecondHit : goal.returns-in-SecondHit
returns-in-SecondHit c = λ tags. rw c.in-SecondHit.is (c.judge_second_hit.ensures tags c.args.item.now.log
    c.args.item.now.bank)

pub returns-in-SecondPrimary : goal.returns-in-SecondPrimary
returns-in-SecondPrimary c = λ tags. rw c.in-SecondPrimary.is
    (c.judge_second_primary.ensures tags c.args.item.now.log c.args.item.now.bank)

pub returns-in-SecondStall : goal.returns-in-SecondStall
returns-in-SecondStall c = λ tags. rw c.in-SecondStall.is (c.judge_second_stall.ensures tags c.args.item.now.log
    c.args.item.now.bank)

pub returns-in-Fill2 : goal.returns-in-Fill2
returns-in-Fill2 c = λ tags. rw c.in-Fill2.is (rw (← c.fill2_agrees-agrees.ensures)
    (c.judge_fill2.ensures tags c.args.item.now.log c.args.item.now.bank c.in-Fill2.bytes))

pub returns-in-Evict2 : goal.returns-in-Evict2
returns-in-Evict2 c = λ tags. rw c.in-Evict2.is (rw (← c.evict2_agrees-agrees.ensures (slice_of c.args.slice.now))
    (c.judge_evict2.ensures tags c.args.item.now.log c.args.item.now.bank c.in-Evict2.bytes))

pub returns-in-SecondMerge : goal.returns-in-SecondMerge
returns-in-SecondMerge c = λ tags. rw c.in-SecondMerge.is (c.judge_second_merge.ensures tags c.args.item.now.log
    c.args.item.now.bank)
