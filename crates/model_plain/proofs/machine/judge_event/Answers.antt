use Rattle.std.proofs.Common.{true}
use Rattle.model_plain.specs.Plain.{busy_of, slice_of}
use Rattle.model_plain.proofs.machine.judge_event.Goals as goal

pub returns-in-Issue : goal.returns-in-Issue
returns-in-Issue c = rw c.in-Issue.is (c.judge_issue.ensures (slice_of c.args.slice.now)
    (busy_of c.args.busy.now c.args.item.now.log) c.args.item.now.log c.args.item.now.bank c.in-Issue.size
    c.in-Issue.address c.in-Issue.op c.in-Issue.bytes c.is_free.ensures)

pub returns-in-Hit : goal.returns-in-Hit
returns-in-Hit c = rw c.in-Hit.is (c.judge_hit.ensures (busy_of c.args.busy.now c.args.item.now.log)
    c.args.item.now.log c.args.item.now.bank)

pub returns-in-Primary : goal.returns-in-Primary
returns-in-Primary c = rw c.in-Primary.is (c.judge_primary.ensures (busy_of c.args.busy.now c.args.item.now.log)
    c.args.item.now.log c.args.item.now.bank)

pub returns-in-Merge : goal.returns-in-Merge
returns-in-Merge c = rw c.in-Merge.is (c.judge_merge.ensures (busy_of c.args.busy.now c.args.item.now.log)
    c.args.item.now.log c.args.item.now.bank)

pub returns-in-Stall : goal.returns-in-Stall
returns-in-Stall c = rw c.in-Stall.is (c.judge_stall.ensures (busy_of c.args.busy.now c.args.item.now.log)
    c.args.item.now.log c.args.item.now.bank)

pub returns-in-Fill1 : goal.returns-in-Fill1
returns-in-Fill1 c = rw c.in-Fill1.is (rw (← c.fill1_agrees-agrees.ensures)
    (c.judge_fill1.ensures (busy_of c.args.busy.now c.args.item.now.log) c.args.item.now.log c.args.item.now.bank
    c.in-Fill1.bytes))

pub returns-in-Evict1 : goal.returns-in-Evict1
returns-in-Evict1 c = rw c.in-Evict1.is (rw (← c.evict1_agrees-agrees.ensures (slice_of c.args.slice.now))
    (c.judge_evict1.ensures (busy_of c.args.busy.now c.args.item.now.log) c.args.item.now.log c.args.item.now.bank
    c.in-Evict1.bytes))

pub returns-in-Fence : goal.returns-in-Fence
returns-in-Fence c = rw c.in-Fence.is (c.judge_fence.ensures true (slice_of c.args.slice.now) c.args.item.now.bank)

pub returns-in_default : goal.returns-in_default
returns-in_default c = c.judge_level_two.ensures (busy_of c.args.busy.now c.args.item.now.log)
