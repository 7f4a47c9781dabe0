use Rattle.std.proofs.Common.{None, Some, [], ◌∷◌, ◌++◌, ap, refl, sym, ◌∙◌, bit_or}
use Rattle.std.specs.Prelude.{slice_index}
use Rattle.lf_rules.specs.Clauses.{OfBank}
use Rattle.lf_rules.specs.Run.{first_failing}
use Rattle.lf_rules.specs.State.{update, Request}
use Rattle.lf_rules.specs.Table.{accepted, store_mask, oldest}
use Rattle.bank_state.specs.Queues.{queue_at}
use Rattle.bank_cells.specs.Cells.{written_at, memory_at}
use Rattle.bank_events.specs.Targets.{miss_of}
use Rattle.bank_events.proofs.Heads.{merge_judged}
use Rattle.bank_events.proofs.HeldIn.{one_holds}
use Rattle.bank_events.proofs.Placed.{placed1}
use Rattle.bank_events.proofs.Told.{merge_told}
use Rattle.bank_events.proofs.bank.Bank.merge.Goals as goal

pub merge_fault_in-requires-clause-some : goal.merge_fault_in-requires-clause-some
merge_fault_in-requires-clause-some g c =
    let steady = rw (← c.self.view_is) at c.requires in
    one_holds _ steady c.block-block.result _
    (c.in-InFlight.ensures c.block-block.result (sym c.in-Some-find.ensures)) refl

pub returns-in-Some-merge_fault_in : goal.returns-in-Some-merge_fault_in
returns-in-Some-merge_fault_in g c = rw (← c.self.view_is) (λ log waiting regs2 alike held.
    let head = rw c.deref.ensures.value at c.in-Some.ensures in (
      merge_judged c.self.inside.shape c.self.inside.queues.items c.args.port c.args.tag c.in-Some.request.now
          c.self.invariant.framed.ports head.0 head.1 waiting c.args.register c.block-block.result
          c.asking-asked.result.destination c.asking-asked.result.position (Some c.rule.result)
          c.block-block.ensures c.asking-asked.ensures.destination c.asking-asked.ensures.position
          (ap Some c.rule.ensures ∙ c.in-Some-merge_fault_in.ensures
          ∙ ap (first_failing OfBank) (merge_told c.self.inside.shape (g.O1.Organisation.seen c.self.inside.waiting)
          c.self.invariant.framed.file1 waiting alike.level1 c.block-block.result c.args.register
          c.asking-asked.result.destination c.asking-asked.result.position)),
      refl,
    ))

pub returns : goal.returns
returns g c = rw (← c.self.view_is) (λ log waiting regs2 alike held.
    let head = rw c.deref.ensures.value at c.in-Some.ensures in
    let request : Request = oldest (queue_at c.self.inside.queues.items c.args.port) in
    let written = written_at c.self.inside.cells in
    let memory = memory_at c.self.inside.cells in
    let more = c.accept.ensures.written
    ∙ ap (λ (r : Request). update written r.block (bit_or (written r.block) (store_mask r))) head.1 in record {
      kept = merge_judged c.self.inside.shape c.self.inside.queues.items c.args.port c.args.tag
          c.in-Some.request.now c.self.invariant.framed.ports head.0 head.1 waiting c.args.register c.block-block.result
          c.asking-asked.result.destination c.asking-asked.result.position None
          c.block-block.ensures c.asking-asked.ensures.destination c.asking-asked.ensures.position
          (c.in_default-merge_fault_in.ensures
          ∙ ap (first_failing OfBank) (merge_told c.self.inside.shape (g.O1.Organisation.seen c.self.inside.waiting)
          c.self.invariant.framed.file1 waiting alike.level1 c.block-block.result c.args.register
          c.asking-asked.result.destination c.asking-asked.result.position));
      shape = refl;
      waiting = record {
        level1 = placed1 c.self.inside.shape (g.O1.Organisation.seen c.self.inside.waiting)
            (g.O1.Organisation.seen c.place.new.file) waiting c.args.register c.block-block.result c.args.port
            c.missed-target.result memory c.in-Some.request.now request alike.level1 c.place.ensures
            c.block-block.ensures head.1 c.missed-target.ensures.tells;
        level2 = alike.level2;
      };
      known = λ i. record {
        queue = c.leave.ensures.rest i;
        ready = c.self.inside.ready.items;
        memory = (c.accept.ensures.memory ∙ ap (accepted memory) head.1) i;
        first = c.accept.ensures.first i;
        written = more i;
        dirty = c.accept.ensures.dirty i;
        second = c.accept.ensures.second i;
        counts1 = slice_index c.self.inside.counts1.items;
        counts2 = slice_index c.self.inside.counts2.items;
        waiting = waiting ++ miss_of c.args.port c.args.register memory request ∷ [];
        regs2 = regs2;
      };
    })
