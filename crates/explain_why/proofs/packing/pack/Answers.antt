use Rattle.std.proofs.Common.{◌≢◌, Some, rules}
use Rattle.lf_codec.specs.declared.fault.CodecCause.TheVariants.{NoMemory}
use Rattle.lf_codec.specs.Reader.{fault_in}
use Rattle.explain_why.proofs.Taken.{unless_out}
use Rattle.explain_why.proofs.Within.{unless_wanted}
use Rattle.explain_why.proofs.packing.pack.Goals as goal

pub returns-in_default-clause-read : goal.returns-in_default-clause-read
returns-in_default-clause-read c fed memory taken has =
    let f = fault_in c.in-Err.told in
    let other : f.cause ≢ NoMemory = search rules in
    unless_out _ f (λ wants. (wants.fault, wants.has_failed.failed, wants.cause))
    (c.pack.ensures.pieces fed memory taken has) (c.in-Err.ensures.refused fed memory taken has).failed other

pub returns-in_default-clause-drained : goal.returns-in_default-clause-drained
returns-in_default-clause-drained c none =
    let f = fault_in c.in-Err.told in
    let other : f.cause ≢ NoMemory = search rules in
    unless_wanted _ (Some f.cause) (λ both. other (cc)) (c.in-Err.ensures.drained none)
