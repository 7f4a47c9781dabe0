use Rattle.std.proofs.Common.{◌==◌, arith}
use Rattle.std.proofs.lemmas.List.Sums.{length-filter, count_by-le-length}
use Rattle.count_coverage.specs.declared.supply.Asked.{Asked}
use Rattle.count_coverage.proofs.standing.second_joined.Goals as goal

pub overflow_cast-result : goal.overflow_cast-result
overflow_cast-result c =
    let same = λ (asked : Asked). asked.second == c.args.second in
    omega (
      arith,
      c.targets2.ensures,
      length-filter same c.args.waiting.now,
      count_by-le-length same
          c.args.waiting.now,
      c.requires.few,
    )

pub overflow_add-result : goal.overflow_add-result
overflow_add-result c =
    let same = λ (asked : Asked). asked.second == c.args.second in
    omega (
      arith,
      c.targets2.ensures,
      length-filter same c.args.waiting.now,
      count_by-le-length same
          c.args.waiting.now,
      c.requires.few,
    )
