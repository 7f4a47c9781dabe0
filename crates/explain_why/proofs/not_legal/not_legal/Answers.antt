use Rattle.explain_why.proofs.Records.{bank_is, trace_of_no}
use Rattle.explain_why.proofs.not_legal.not_legal.Goals as goal

pub by_fault-requires-clause-trace : goal.by_fault-requires-clause-trace
by_fault-requires-clause-trace c = trace_of_no c.args.shape.now c.args.bytes.now c.args.fault.now c.requires.no
