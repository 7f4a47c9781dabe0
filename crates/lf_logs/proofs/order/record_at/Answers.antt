use Rattle.std.proofs.Common.{◌≡◌, get_or, ap, ◌∙◌, arith}
use Rattle.std.specs.Global.{Vec}
use Rattle.lf_rules.specs.declared.event.Record.{Record}
use Rattle.lf_logs.proofs.Reading.{place_inside, record_is}
use Rattle.lf_logs.proofs.order.record_at.Goals as goal

pub index-requires-2 : goal.index-requires-2
index-requires-2 c =
    let logs = c.args.logs.now.items in
    let log = c.index.result.now in
    let read : log ≡ get_or logs c.args.place.log log = c.index.ensures ∙ ap (λ n. get_or logs n log) c.from.ensures in
    omega (arith, place_inside (λ (v : Vec Record). v.items) logs c.args.place c.requires log read, log.ok.0)

pub returns : goal.returns
returns c =
    let logs = c.args.logs.now.items in
    let log = c.index.result.now in
    let read : log ≡ get_or logs c.args.place.log log = c.index.ensures ∙ ap (λ n. get_or logs n log) c.from.ensures in
    record_is (λ (v : Vec Record). v.items) logs c.args.place c.requires log read c.index-2.result.now c.index-2.ensures
