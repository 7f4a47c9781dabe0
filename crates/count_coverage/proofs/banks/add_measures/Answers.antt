use Rattle.std.proofs.Common.{ℕ, List, get_or, ap, ◌∙◌}
use Rattle.count_coverage.specs.declared.point.Measure.TheVariants.{DirtyBlocks}
use Rattle.count_coverage.specs.Counted.{tally_of}
use Rattle.count_coverage.specs.Reachable.{points_of, all_measures}
use Rattle.count_coverage.proofs.Tallies.{flattened_next}
use Rattle.count_coverage.proofs.banks.add_measures.Goals as goal

pub loop-measure-preserved : goal.loop-measure-preserved
loop-measure-preserved c count are =
    flattened_next c.args.tallies.now.items c.loop-measure.tallies.items c.add_numbers.new.tallies.items
    (tally_of c.args.bank count) (points_of c.args.shape.now) all_measures c.loop-measure.measure-index _
    c.loop-measure-test.true (c.loop-measure.invariant count are) (c.in_ok-add_numbers.ensures count
    (λ n below. ap (λ (ks : List ℕ). get_or ks n 0) c.numbers.ensures
    ∙ are.of_numbers (get_or all_measures c.loop-measure.measure-index DirtyBlocks) n below))
