use Rattle.std.proofs.Common.{◌≡◌, length, sym, ap, ◌∙◌, arith}
use Rattle.std.specs.Global.{Vec}
use Rattle.std.proofs.lemmas.List.{length-map}
use Rattle.lf_rules.specs.declared.event.Record.{Record}
use Rattle.lf_logs.proofs.Splitting.{length-parts_of, parts_of-outside, placed}
use Rattle.lf_verdict.proofs.pool.gathering.put.Goals as goal

pub returns-then-log-len : goal.returns-then-log-len
returns-then-log-len c count records was =
    let before = c.args.logs.now.items in
    let long : length before ≡ count = sym (length-map before (λ (v : Vec Record). v.items)) ∙ ap length was
    ∙ length-parts_of (λ r. r.log) count records in
    was ∙ parts_of-outside (λ r. r.log) count records c.args.item
    (omega (arith, long, c.if-log-len.true, c.from-log.ensures, c.len.ensures, c.args.logs.now.ok.0))

pub returns : goal.returns
returns c count records was =
    let before = c.args.logs.now.items in
    let long : length before ≡ count = sym (length-map before (λ (v : Vec Record). v.items)) ∙ ap length was
    ∙ length-parts_of (λ r. r.log) count records in
    placed (λ r. r.log) before count records c.args.item c.from-log.result c.index_mut.result.now c.push.new.self
    c.from-log.ensures
    (omega (arith, long, c.if-log-len.false, c.from-log.ensures, c.len.ensures, c.args.logs.now.ok.0)) was
    c.index_mut.ensures.value c.in_ok-push.ensures.items
