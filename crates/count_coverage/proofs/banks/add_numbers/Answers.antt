use Rattle.std.proofs.Common.{◌≡◌, ℕ, ◌++◌, map, ap, ◌∙◌, arith}
use Rattle.std.specs.List.{filter, range_with_len}
use Rattle.count_coverage.specs.declared.point.BankPoint.TheVariants.{Numbered}
use Rattle.count_coverage.specs.Counted.{tally_of}
use Rattle.count_coverage.specs.Reachable.{can_reach}
use Rattle.count_coverage.proofs.Tallies.{kept_more}
use Rattle.count_coverage.proofs.banks.add_numbers.Goals as goal

pub loop-number-preserved : goal.loop-number-preserved
loop-number-preserved c count are =
    kept_more c.args.tallies.now.items c.loop-number.tallies.items c.add.new.tallies.items (tally_of c.args.bank count)
    (can_reach c.args.shape.now) (λ n. Numbered c.args.measure n) c.loop-number.number
    (c.loop-number.invariant count are)
    (c.in_ok-add.ensures count (are c.loop-number.number c.loop-number-test.true))

pub returns : goal.returns
returns c count are =
    let all : c.loop-number.number ≡ 65 = omega arith in
    c.loop-number.invariant count are
    ∙ ap (λ (n : ℕ). c.args.tallies.now.items
    ++ map (tally_of c.args.bank count)
    (filter (can_reach c.args.shape.now) (map (Numbered c.args.measure) (range_with_len 0 n)))) all
