use Rattle.std.proofs.Common.{◌==◌, arith}
use Rattle.std.proofs.lemmas.List.Sums.{length-filter, count_by-le-length}
use Rattle.count_coverage.specs.declared.request.Request.{Request}
use Rattle.count_coverage.proofs.standing.joined.Goals as goal

pub overflow_cast-result : goal.overflow_cast-result
overflow_cast-result c =
    let same = λ (request : Request). request.block == c.args.request.block in
    omega (
      arith,
      c.targets.ensures,
      length-filter same c.args.waiting.now,
      count_by-le-length same
          c.args.waiting.now,
      c.requires.few,
    )

pub overflow_add-result : goal.overflow_add-result
overflow_add-result c =
    let same = λ (request : Request). request.block == c.args.request.block in
    omega (
      arith,
      c.targets.ensures,
      length-filter same c.args.waiting.now,
      count_by-le-length same
          c.args.waiting.now,
      c.requires.few,
    )
