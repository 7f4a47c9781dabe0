use Rattle.std.proofs.Common.{Option, subst}
use Rattle.std.specs.Prelude.{IfSome}
use Rattle.run_shrink.specs.declared.broken.RuleFault.{RuleFault}
use Rattle.run_shrink.specs.Broken.{HasFault}
use Rattle.run_shrink.proofs.Faults.{records_are_fit}
use Rattle.run_shrink.proofs.candidate.wanted_fault.Goals as goal

pub is_met-requires-clause-fit : goal.is_met-requires-clause-fit
is_met-requires-clause-fit c =
    let first = c.args.wanted.now.sought.first in
    let shape = c.args.shape.now in
    let bytes = c.args.bytes.now in
    let has : HasFault first shape bytes c.in-Some.fault =
    subst (λ (o : Option RuleFault). IfSome o (HasFault first shape bytes)) c.in-Some.is c.in_ok-fault.ensures in
    records_are_fit shape bytes first c.in-Some.fault has c.requires.trace.0 c.args.memory.now.items
    c.args.records.now c.requires.trace.1
