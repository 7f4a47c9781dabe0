use Rattle.std.proofs.Common.{ℕ, [], take}
use Rattle.lf_verdict.specs.Legal.{joined}
use Rattle.lf_verdict.specs.inner.Gathering.{HasGathered}
use Rattle.lf_verdict.proofs.pool.gathering.Gathered.feed_all.Given as goal

abbrev pub invariant-loop-piece : goal.invariant-loop-piece
invariant-loop-piece l = (count : ℕ) → HasGathered count l.fn.self [] →
    HasGathered count l.self (joined (take l.piece-index l.pieces))
