use Rattle.std.proofs.Common.{ℕ, Option, None, Some, [], ◌∷◌, ◌++◌, ap, refl, sym, subst, ◌∙◌, bit_or, rules}
use Rattle.std.specs.Prelude.{slice_index}
use Rattle.lf_rules.specs.Address.{FlatMemory}
use Rattle.lf_rules.specs.Clauses.{OfBank}
use Rattle.lf_rules.specs.Run.{first_failing}
use Rattle.lf_rules.specs.State.{update, Request}
use Rattle.lf_rules.specs.Table.{accepted, store_mask, oldest}
use Rattle.bank_state.specs.Queues.{queue_at}
use Rattle.bank_cells.specs.Cells.{first_at, written_at, memory_at}
use Rattle.bank_cells.specs.declared.known.Fetch.TheVariants as fetch
use Rattle.bank_cells.specs.declared.known.First.TheVariants as level1
use Rattle.bank_events.specs.Known.{is_present}
use Rattle.bank_events.specs.Targets.{IsTarget1, miss_of}
use Rattle.bank_events.proofs.Heads.{primary_judged}
use Rattle.bank_events.proofs.HeldIn.{none_holds}
use Rattle.bank_events.proofs.Placed.{placed1}
use Rattle.bank_events.proofs.Told.{primary_told}
use Rattle.bank_events.proofs.bank.Bank.primary.Goals as goal

pub fresh_fault-requires : goal.fresh_fault-requires
fresh_fault-requires g c =
    let steady = rw (← c.self.view_is) at c.requires in
    none_holds _ steady c.block-block.result level1.Absent
    (c.in-Absent.ensures c.block-block.result c.find-found.ensures) refl

pub set_first-requires : goal.set_first-requires
set_first-requires g c = record {
  block = c.block-block.result;
  found = ap (λ (cells : ℕ → Option ℕ). cells c.block-block.result) c.accept.ensures.placed.cells
      ∙ c.in-Ok.ensures.cell;
}

pub returns-in-Some-fresh_fault : goal.returns-in-Some-fresh_fault
returns-in-Some-fresh_fault g c = rw (← c.self.view_is) (λ log waiting regs2 alike held.
    let head = rw c.deref.ensures.value at c.in-Some.ensures in (
      primary_judged c.self.inside.shape c.self.inside.queues.items c.args.port c.args.tag
          c.in-Some.request.now c.self.invariant.framed.ports head.0 head.1 (first_at c.self.inside.cells) waiting
          c.args.register c.block-block.result c.asking-asked.result.destination (Some c.rule.result)
          (ap is_present (sym (c.in-Absent.ensures c.block-block.result c.find-found.ensures)))
          c.block-block.ensures c.asking-asked.ensures.destination
          (ap Some c.rule.ensures ∙ c.in-Some-fresh_fault.ensures
          ∙ ap (first_failing OfBank) (primary_told c.self.inside.shape (g.O1.Organisation.seen c.self.inside.waiting)
          c.self.invariant.framed.file1 waiting alike.level1 c.block-block.result c.args.register
          c.asking-asked.result.destination)),
      refl,
    ))

pub returns-in_default-cell_for : goal.returns-in_default-cell_for
returns-in_default-cell_for g c = rw (← c.self.view_is) (λ log waiting regs2 alike held.
    let head = rw c.deref.ensures.value at c.in-Some.ensures in (
      primary_judged c.self.inside.shape c.self.inside.queues.items c.args.port c.args.tag
          c.in-Some.request.now c.self.invariant.framed.ports head.0 head.1 (first_at c.self.inside.cells) waiting
          c.args.register c.block-block.result c.asking-asked.result.destination None
          (ap is_present (sym (c.in-Absent.ensures c.block-block.result c.find-found.ensures)))
          c.block-block.ensures c.asking-asked.ensures.destination
          (c.in_default-fresh_fault.ensures
          ∙ ap (first_failing OfBank) (primary_told c.self.inside.shape (g.O1.Organisation.seen c.self.inside.waiting)
          c.self.invariant.framed.file1 waiting alike.level1 c.block-block.result c.args.register
          c.asking-asked.result.destination)),
      search (rules, c.in_default-cell_for.ensures.err),
    ))

pub returns : goal.returns
returns g c = rw (← c.self.view_is) (λ log waiting regs2 alike held.
    let head = rw c.deref.ensures.value at c.in-Some.ensures in
    let request : Request = oldest (queue_at c.self.inside.queues.items c.args.port) in
    let words = c.cell_for.ensures.words in
    let written = written_at c.self.inside.cells in
    let memory = memory_at c.self.inside.cells in
    let there = ap (λ (cells : ℕ → Option ℕ). cells c.block-block.result) c.accept.ensures.placed.cells
    ∙ c.in-Ok.ensures.cell in
    let block_is = c.block-block.ensures ∙ ap (λ (r : Request). r.block) head.1 in
    let tells = subst (λ (m : FlatMemory). IsTarget1 c.self.inside.shape c.missed-target.result
    (miss_of c.args.port c.args.register m c.in-Some.request.now).target) words.memory c.missed-target.ensures.tells in
    let effect = c.accept.ensures.memory ∙ (λ j. accepted (words.memory j) (head.1 j)) in
    let more = c.accept.ensures.written
    ∙ (λ j. update (words.written j) (head.1 j).block
    (bit_or (words.written j (head.1 j).block) (store_mask (head.1 j)))) in
    let firsts = c.set_first.ensures.first c.block-block.result there
    ∙ (λ j. update ((c.accept.ensures.first ∙ words.first) j) (block_is j)
    (level1.InFlight c.args.register fetch.Asked)) in record {
      kept = primary_judged c.self.inside.shape c.self.inside.queues.items c.args.port c.args.tag
          c.in-Some.request.now c.self.invariant.framed.ports head.0 head.1 (first_at c.self.inside.cells) waiting
          c.args.register c.block-block.result c.asking-asked.result.destination None
          (ap is_present (sym (c.in-Absent.ensures c.block-block.result c.find-found.ensures)))
          c.block-block.ensures c.asking-asked.ensures.destination
          (c.in_default-fresh_fault.ensures
          ∙ ap (first_failing OfBank) (primary_told c.self.inside.shape (g.O1.Organisation.seen c.self.inside.waiting)
          c.self.invariant.framed.file1 waiting alike.level1 c.block-block.result c.args.register
          c.asking-asked.result.destination));
      shape = refl;
      waiting = record {
        level1 = placed1 c.self.inside.shape (g.O1.Organisation.seen c.self.inside.waiting)
            (g.O1.Organisation.seen c.place.new.file) waiting c.args.register c.block-block.result c.args.port
            c.missed-target.result memory c.in-Some.request.now request alike.level1 c.place.ensures
            c.block-block.ensures head.1 tells;
        level2 = alike.level2;
      };
      known = λ i. record {
        queue = c.leave.ensures.rest i;
        ready = c.self.inside.ready.items;
        memory = (c.set_first.ensures.memory ∙ effect) i;
        first = firsts i;
        written = (c.set_first.ensures.written ∙ more) i;
        dirty = (c.set_first.ensures.dirty ∙ c.accept.ensures.dirty ∙ words.dirty) i;
        second = (c.set_first.ensures.second ∙ c.accept.ensures.second ∙ words.second) i;
        counts1 = slice_index c.self.inside.counts1.items;
        counts2 = slice_index c.self.inside.counts2.items;
        waiting = waiting ++ miss_of c.args.port c.args.register memory request ∷ [];
        regs2 = regs2;
      };
    })
