use Rattle.std.proofs.Common.{◌<◌, length, sym, ap, ◌∙◌, arith}
use Rattle.std.proofs.lemmas.List.{drop_all}
use Rattle.explain_origins.specs.Further.{first_from, is_later_request}
use Rattle.explain_origins.proofs.FurtherLemmas.{no_record, first_here, first_later}
use Rattle.explain_origins.proofs.further.later_request.Goals as goal

pub loop-place-preserved : goal.loop-place-preserved
loop-place-preserved c =
    let rs = c.args.records.now.records in
    let naming = c.args.naming in
    let k = c.loop-place.place in
    let lt : k < length rs = omega (arith, c.loop-place-test.true, c.len-place-end.ensures) in
    sym (first_later (is_later_request naming.port naming.tag naming.bank naming.number) k rs c.lend-item.result.now lt
    (c.lend-item.ensures no_record) (sym c.is_later_request.ensures ∙ c.if-is_later_request.false))
    ∙ c.loop-place.invariant

pub returns-then-is_later_request : goal.returns-then-is_later_request
returns-then-is_later_request c =
    let rs = c.args.records.now.records in
    let naming = c.args.naming in
    let k = c.loop-place.place in
    let lt : k < length rs = omega (arith, c.loop-place-test.true, c.len-place-end.ensures) in
    sym (first_here (is_later_request naming.port naming.tag naming.bank naming.number) k rs c.lend-item.result.now lt
    (c.lend-item.ensures no_record) (sym c.is_later_request.ensures ∙ c.if-is_later_request.true))
    ∙ c.loop-place.invariant

pub returns : goal.returns
returns c =
    let rs = c.args.records.now.records in
    let naming = c.args.naming in
    let k = c.loop-place.place in
    ap (first_from (is_later_request naming.port naming.tag naming.bank naming.number) k)
    (sym (drop_all k rs (omega (arith, c.loop-place-test.false, c.len-place-end.ensures))))
    ∙ c.loop-place.invariant
