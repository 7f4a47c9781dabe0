use Rattle.std.specs.List.{filter, flat_map}
use Rattle.count_coverage.specs.Counted.{tally_of}
use Rattle.count_coverage.specs.Reachable.{can_reach, kinds, points_of, all_measures}
use Rattle.count_coverage.proofs.Tallies.{both}
use Rattle.count_coverage.proofs.banks.add_bank.Goals as goal

pub returns : goal.returns
returns c count are =
    both c.args.tallies.now.items c.add_kinds.new.tallies.items c.add_measures.new.tallies.items
    (tally_of c.args.bank count) (filter (can_reach c.args.shape.now) kinds)
    (flat_map (points_of c.args.shape.now) all_measures)
    (c.in_ok-add_kinds.ensures count are) (c.in_ok-add_measures.ensures count are)
