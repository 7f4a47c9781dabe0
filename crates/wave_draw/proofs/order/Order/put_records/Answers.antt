use Rattle.std.proofs.Common.{◌≡◌, ◌++◌, true, false, ap, sym, ◌∙◌}
use Rattle.std.proofs.lemmas.Result.{on_ok_weaker}
use Rattle.wave_draw.specs.declared.order.Order.{Order}
use Rattle.wave_order.specs.Ordered.{left_by}
use Rattle.wave_draw.specs.Turns.{IsPast}
use Rattle.wave_draw.proofs.Turns.{draws_more, draws_none, others_wait}
use Rattle.wave_draw.proofs.order.Order.put_records.Goals as goal

pub returns-clause-drawn : goal.returns-clause-drawn
returns-clause-drawn c records come =
    let old = c.args.self.now in
    let kept = c.in_ok-keep.ensures in
    let more = c.args.reader.now.records in
    let isnt : ¬ IsPast old = λ past.
    let is : c.is_past.result ≡ true = c.is_past.ensures.1 past in
    let bad : true ≡ false = sym is ∙ c.if-is_past.false in cc in
    on_ok_weaker c.put_due.result
    (draws_more c.args.times.now old c.keep.new.self c.put_due.new.self _ _ _ _ records more come
    (ap (λ (o : Order). o.logs) kept.rest) (ap (λ (o : Order). o.next) kept.rest) c.put_due.ensures.logs)
    (c.put_due.ensures.due (left_by old.logs.items records ++ more)
    (kept.kept (left_by old.logs.items records) (others_wait old records come isnt)))

pub returns-then-is_past-clause-drawn : goal.returns-then-is_past-clause-drawn
returns-then-is_past-clause-drawn c records come =
    draws_none c.args.times.now c.args.self.now _ _ records c.args.reader.now.records come
    (c.is_past.ensures.0 c.if-is_past.true)
