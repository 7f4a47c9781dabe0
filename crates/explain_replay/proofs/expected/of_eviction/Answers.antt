use Rattle.std.proofs.Common.{◌∙◌}
use Rattle.explain_replay.proofs.expected.of_eviction.Goals as goal

pub returns-in_ok-due-in-Evict1 : goal.returns-in_ok-due-in-Evict1
returns-in_ok-due-in-Evict1 c = λ shape memory bank rs stands.
    rw c.in-Evict1.is (c.in_ok-due-in-Evict1.ensures ∙ c.deref.ensures.0
    ∙ c.evicted.ensures shape memory bank rs stands)

pub returns-in_ok-due-in-Evict2 : goal.returns-in_ok-due-in-Evict2
returns-in_ok-due-in-Evict2 c = λ shape memory bank rs stands. rw c.in-Evict2.is
    (c.in_ok-due-in-Evict2.ensures shape memory bank rs stands)
