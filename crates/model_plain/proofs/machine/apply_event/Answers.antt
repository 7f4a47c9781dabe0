use Rattle.std.proofs.Common.{ap, ◌∙◌}
use Rattle.lf_rules.specs.Table.{request_of}
use Rattle.bank_state.specs.Bytes.{flat_of}
use Rattle.model_plain.proofs.machine.apply_event.Goals as goal

pub returns-in-Issue-clause-slice : goal.returns-in-Issue-clause-slice
returns-in-Issue-clause-slice c =
    let same = c.of_issue-request.ensures ∙ ap (request_of c.args.shape.now c.in-Issue.tag c.in-Issue.op
    c.in-Issue.size c.in-Issue.address) c.deref.ensures.0 in
    rw c.in-Issue.is (c.issue.ensures.slice c.args.shape.now (flat_of c.args.memory.now) c.in-Issue.op c.in-Issue.tag
    c.in-Issue.size c.in-Issue.address c.in-Issue.bytes same)

pub returns-in-Reply-clause-slice : goal.returns-in-Reply-clause-slice
returns-in-Reply-clause-slice c = rw c.in-Reply.is (c.reply.ensures.slice c.args.shape.now (flat_of c.args.memory.now)
    c.in-Reply.size c.in-Reply.bytes)

pub returns-in-Hit-clause-slice : goal.returns-in-Hit-clause-slice
returns-in-Hit-clause-slice c = rw c.in-Hit.is (c.hit.ensures.slice c.args.shape.now c.args.item.now.log)

pub returns-in-Primary-clause-slice : goal.returns-in-Primary-clause-slice
returns-in-Primary-clause-slice c = rw c.in-Primary.is (c.primary.ensures.slice c.args.shape.now c.args.item.now.log)

pub returns-in-Merge-clause-slice : goal.returns-in-Merge-clause-slice
returns-in-Merge-clause-slice c = rw c.in-Merge.is (c.merge.ensures.slice c.args.shape.now c.args.item.now.log)

pub returns-in-Fill1-clause-slice : goal.returns-in-Fill1-clause-slice
returns-in-Fill1-clause-slice c = rw c.in-Fill1.is (c.fill1.ensures.slice c.args.shape.now (flat_of c.args.memory.now)
    c.args.item.now.log c.in-Fill1.bytes)

pub returns-in-Evict1-clause-slice : goal.returns-in-Evict1-clause-slice
returns-in-Evict1-clause-slice c = rw c.in-Evict1.is (c.evict1.ensures.slice (flat_of c.args.memory.now)
    c.args.item.now.log c.in-Evict1.bytes)

pub returns-in_default-clause-slice : goal.returns-in_default-clause-slice
returns-in_default-clause-slice c = c.apply_level_two.ensures.slice (flat_of c.args.memory.now)
