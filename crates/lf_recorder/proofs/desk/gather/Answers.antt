use Rattle.std.proofs.Common.{◌≡◌, ◌≤◌, [], ◌∷◌, length, map, sym, ap, ◌∙◌, subst, append_assoc, arith}
use Rattle.std.specs.Prelude.{All}
use Rattle.std.specs.Vec.Iter.{into_iter_items}
use Rattle.std.proofs.lemmas.List.Elements.{All-head, All-tail}
use Rattle.atomic_table.specs.Table.{Joins}
use Rattle.lf_recorder.specs.declared.rule.View.TheVariants.{Log, Spent}
use Rattle.lf_recorder.specs.Rule.{HasRecords, Mine, with_log}
use Rattle.lf_recorder.specs.Desk.{SeatView, entry_of}
use Rattle.lf_recorder.proofs.Steps.{takes}
use Rattle.lf_recorder.proofs.Closing.{collector_after, logs_after, logs_same}
use Rattle.lf_recorder.proofs.desk.gather.Goals as goal

pub join_seat-requires : goal.join_seat-requires
join_seat-requires c =
    let at = c.loop-seat in
    let shared = c.args.shared.now in
    let inside = c.seat.inside in
    let P : SeatView → Type 0 = λ s. s.desk ≡ shared.table_id in
    let steps : into_iter_items at.seat-iterator ≡ c.in-Some.seat ∷ into_iter_items c.next.new.self =
    c.in-Some.ensures.steps.0 in
    let own : c.in-Some.seat.desk ≡ shared.table_id = All-head P c.in-Some.seat (into_iter_items c.next.new.self)
    (subst (All P) steps at.invariant.mine) in (
      at.invariant.table,
      ap (λ (s : SeatView). s.desk) c.seat.view_is ∙ own,
      ap (λ (m : Mine). m.1) c.seat.invariant,
      c.requires.table.1,
      subst
          (λ (z : Mine × Mine). Joins (HasRecords shared.key) at.collector.id z.0.0 inside.seat.id z.1.0
          (with_log z.0.0 z.1.0) Spent)
          (λ i. (sym at.invariant.made i, sym c.seat.invariant i))
          (takes shared.key at.collector.id c.args.made (map entry_of at.yielded) inside.seat.id inside.log
          inside.records.items),
    )

pub loop-seat-preserved-then-from-len : goal.loop-seat-preserved-then-from-len
loop-seat-preserved-then-from-len c =
    let at = c.loop-seat in
    let x = c.in-Some.seat in
    let inside = c.seat.inside in
    let shared = c.args.shared.now in
    let P : SeatView → Type 0 = λ s. s.desk ≡ shared.table_id in
    let steps : into_iter_items at.seat-iterator ≡ x ∷ into_iter_items c.next.new.self = c.in-Some.ensures.steps.0 in
    let view : record { desk = inside.seat.table_id; log = inside.log; records = inside.records.items } ≡ x =
    c.seat.view_is in record {
      rest = append_assoc at.yielded (x ∷ []) _ ∙ rw (← steps) at.invariant.rest;
      left = (let was = at.invariant.left in let gone = c.in-Some.ensures.steps.1 in let short = ap length steps in
          omega arith);
      mine = All-tail P x (into_iter_items c.next.new.self) (subst (All P) steps at.invariant.mine);
      table = c.join_seat.ensures.0 ∙ at.invariant.table;
      made =
          collector_after c.args.made at.yielded x at.collector.me inside.seat.me _ at.invariant.made
          (c.seat.invariant ∙ ap (λ (s : SeatView). (Log s.log s.records, [])) view) c.join_seat.ensures.2;
      logs =
          logs_after (λ log. log.items) _ at.yielded x at.logs.items at.invariant.logs _ inside.records
          (c.from-then-from-len.ensures ∙ ap (λ (s : SeatView). s.log) view) (ap (λ (s : SeatView). s.records) view);
    }

pub loop-seat-preserved : goal.loop-seat-preserved
loop-seat-preserved c =
    let at = c.loop-seat in
    let x = c.in-Some.seat in
    let inside = c.seat.inside in
    let shared = c.args.shared.now in
    let P : SeatView → Type 0 = λ s. s.desk ≡ shared.table_id in
    let steps : into_iter_items at.seat-iterator ≡ x ∷ into_iter_items c.next.new.self = c.in-Some.ensures.steps.0 in
    let view : record { desk = inside.seat.table_id; log = inside.log; records = inside.records.items } ≡ x =
    c.seat.view_is in
    let past : length at.logs.items ≤ inside.log = omega arith in record {
      rest = append_assoc at.yielded (x ∷ []) _ ∙ rw (← steps) at.invariant.rest;
      left = (let was = at.invariant.left in let gone = c.in-Some.ensures.steps.1 in let short = ap length steps in
          omega arith);
      mine = All-tail P x (into_iter_items c.next.new.self) (subst (All P) steps at.invariant.mine);
      table = c.join_seat.ensures.0 ∙ at.invariant.table;
      made =
          collector_after c.args.made at.yielded x at.collector.me inside.seat.me _ at.invariant.made
          (c.seat.invariant ∙ ap (λ (s : SeatView). (Log s.log s.records, [])) view) c.join_seat.ensures.2;
      logs = logs_same (λ log. log.items) _ at.yielded x at.logs.items at.invariant.logs
          (subst (λ (s : SeatView). length at.logs.items ≤ s.log) view past);
    }
