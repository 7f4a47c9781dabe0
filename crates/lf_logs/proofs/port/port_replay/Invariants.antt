use Rattle.lf_rules.specs.Address.{FlatMemory}
use Rattle.lf_rules.specs.Outcomes.{first_local}
use Rattle.lf_logs.specs.Tags.{with_tags}
use Rattle.lf_logs.proofs.PortRun.{GoesOn}
use Rattle.lf_logs.proofs.port.port_replay.Given as goal

abbrev pub invariant-loop-at : goal.invariant-loop-at
invariant-loop-at l = (memory : FlatMemory) → GoesOn l.shape (first_local memory)
    (with_tags (first_local memory) l.tags.owed_by) l.records l.at
