use Rattle.explain_replay.proofs.expected.of_mask.Goals as goal

pub returns-in-Evict1 : goal.returns-in-Evict1
returns-in-Evict1 c = λ shape memory bank rs stands. rw c.in-Evict1.is
    (c.dirty_mask.ensures shape memory bank rs stands)

pub returns-in-Evict2 : goal.returns-in-Evict2
returns-in-Evict2 c = λ shape memory bank rs stands. rw c.in-Evict2.is
    (c.dirty_masks.ensures shape memory bank rs stands)
