use Rattle.std.proofs.Common.{◌≡◌, ℕ, ◌++◌, map, take, ap, ◌∙◌, arith}
use Rattle.std.specs.List.{filter}
use Rattle.count_coverage.specs.Counted.{tally_of}
use Rattle.count_coverage.specs.Reachable.{can_reach, kinds}
use Rattle.count_coverage.proofs.Tallies.{kept_next}
use Rattle.count_coverage.proofs.banks.add_kinds.Goals as goal

pub loop-i-preserved : goal.loop-i-preserved
loop-i-preserved c count are =
    kept_next c.args.tallies.now.items c.loop-i.tallies.items c.add.new.tallies.items (tally_of c.args.bank count)
    (can_reach c.args.shape.now) kinds c.loop-i.i _ c.loop-i-test.true (c.loop-i.invariant count are)
    (c.in_ok-add.ensures count (are.of_kinds c.loop-i.i c.loop-i-test.true))

pub returns : goal.returns
returns c count are =
    let all : c.loop-i.i ≡ 44 = omega arith in
    c.loop-i.invariant count are
    ∙ ap (λ (n : ℕ). c.args.tallies.now.items
    ++ map (tally_of c.args.bank count) (filter (can_reach c.args.shape.now) (take n kinds))) all
