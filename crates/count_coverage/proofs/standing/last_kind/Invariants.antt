use Rattle.std.proofs.Common.{◌≡◌, take}
use Rattle.count_coverage.specs.Standing.{last_kind}
use Rattle.count_coverage.proofs.standing.last_kind.Given as goal

abbrev pub invariant-loop-request : goal.invariant-loop-request
invariant-loop-request l = l.last ≡ last_kind l.block (take l.request-index l.waiting)
