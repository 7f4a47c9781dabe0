use Rattle.std.proofs.Common.{◌≡◌, ◌<◌, length, get_or, arith}
use Rattle.std.proofs.lemmas.List.{get_or_default}
use Rattle.lf_logs.proofs.Placing.{misplaced, number_inside, Placed-swap, fewer, Placed-all}
use Rattle.lf_logs.proofs.banks.order_by_number.Goals as goal

pub swap-requires-clause-b_in_bounds : goal.swap-requires-clause-b_in_bounds
swap-requires-clause-b_in_bounds c =
    let now = c.loop-at.records in
    let item = get_or now c.loop-at.at c.index-records-at.result in
    number_inside c.args.records.now now c.loop-at.at c.loop-at.invariant item c.loop-at-test.true
    (get_or_default now c.loop-at.at c.index-records-at.result item c.loop-at-test.true)

pub loop-at-smaller : goal.loop-at-smaller
loop-at-smaller c =
    let now = c.loop-at.records in
    let item = get_or now c.loop-at.at c.index-records-at.result in
    let there = get_or_default now c.loop-at.at c.index-records-at.result item c.loop-at-test.true in
    let less : misplaced 0 c.swap.new.self < misplaced 0 now =
    fewer c.args.records.now now c.loop-at.at c.loop-at.invariant item c.loop-at-test.true there c.swap.new.self
    c.if-number-at.false c.swap.ensures.after in
    let long : length c.swap.new.self ≡ length now = c.swap.ensures.len in
    omega (arith, less, long)

pub loop-at-preserved : goal.loop-at-preserved
loop-at-preserved c =
    let now = c.loop-at.records in
    let item = get_or now c.loop-at.at c.index-records-at.result in
    let there = get_or_default now c.loop-at.at c.index-records-at.result item c.loop-at-test.true in
    Placed-swap c.args.records.now now c.loop-at.at c.loop-at.invariant item c.loop-at-test.true there c.swap.new.self
    c.if-number-at.false c.swap.ensures.after

pub returns-clause-numbers : goal.returns-clause-numbers
returns-clause-numbers c = Placed-all c.args.records.now c.loop-at.records c.loop-at.at c.loop-at.invariant
    c.loop-at-test.false
