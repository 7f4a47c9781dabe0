use Rattle.std.proofs.Common.{◌≢◌, rules}
use Rattle.lf_codec.specs.declared.fault.CodecCause.TheVariants.{NoMemory}
use Rattle.lf_codec.specs.Reader.{fault_in}
use Rattle.explain_why.proofs.Taken.{unless_out}
use Rattle.explain_why.proofs.parts.feed.Goals as goal

pub returns-in_default : goal.returns-in_default
returns-in_default c fed memory records has =
    let f = fault_in c.in-Err.told in
    let other : f.cause ≢ NoMemory = search rules in
    unless_out _ f (λ ran. (ran.fault, ran.failed, ran.cause)) (c.feed.ensures.pieces fed memory records has)
    (c.in-Err.ensures.refused fed memory records has).failed other
