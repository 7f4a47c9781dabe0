use Rattle.std.proofs.Common.{length}
use Rattle.lf_verdict.proofs.Aheads.{HasReadPart}
use Rattle.lf_verdict.proofs.session.ahead.Ahead.read_in_parts.Given as goal

abbrev pub invariant-loop-rest : goal.invariant-loop-rest
invariant-loop-rest g l = HasReadPart l.fn.self l.self l.fn.piece l.rest

abbrev pub decreases-loop-rest : goal.decreases-loop-rest
decreases-loop-rest g l = length l.rest
