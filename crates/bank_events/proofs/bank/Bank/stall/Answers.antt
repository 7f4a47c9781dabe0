use Rattle.std.proofs.Common.{◌∙◌, refl}
use Rattle.bank_cells.specs.Cells.{first_at}
use Rattle.bank_events.proofs.Heads.{stall_judged}
use Rattle.bank_events.proofs.HeldIn.{holder_some, holder_none}
use Rattle.bank_events.proofs.Told.{room_told}
use Rattle.bank_events.proofs.bank.Bank.stall.Goals as goal

pub room_in-requires-clause-some : goal.room_in-requires-clause-some
room_in-requires-clause-some g c =
    let steady = rw (← c.self.view_is) at c.requires in
    holder_some _ steady c.block-block.result c.first_in-first.result c.holder_of.result
    (c.first_in-first.ensures c.block-block.result c.find.ensures) c.holder_of.ensures.some

pub room_in-requires-clause-none : goal.room_in-requires-clause-none
room_in-requires-clause-none g c =
    let steady = rw (← c.self.view_is) at c.requires in
    holder_none _ steady c.block-block.result c.first_in-first.result c.holder_of.result
    (c.first_in-first.ensures c.block-block.result c.find.ensures) c.holder_of.ensures.none

pub returns-then-room_in : goal.returns-then-room_in
returns-then-room_in g c = rw (← c.self.view_is) (λ log waiting regs2 alike held.
    let head = rw c.deref.ensures.value at c.in-Some.ensures in (
      stall_judged c.self.inside.shape c.self.inside.queues.items c.args.port c.args.tag c.in-Some.request.now
          c.self.invariant.framed.ports head.0 head.1 (first_at c.self.inside.cells) waiting c.block-block.result
          c.asking-asked.result.destination c.asking-asked.result.position c.first_in-first.result _
          (c.first_in-first.ensures c.block-block.result c.find.ensures)
          c.in_default-first.not-Present c.block-block.ensures
          c.asking-asked.ensures.destination c.asking-asked.ensures.position
          (c.if-room_in.ensures.value ∙ room_told c.self.inside.shape (g.O1.Organisation.seen c.self.inside.waiting)
          c.self.invariant.framed.file1 waiting alike.level1 c.block-block.result c.asking-asked.result.destination
          c.asking-asked.result.position),
      refl,
    ))

pub returns : goal.returns
returns g c = rw (← c.self.view_is) (λ log waiting regs2 alike held.
    let head = rw c.deref.ensures.value at c.in-Some.ensures in record {
      kept = stall_judged c.self.inside.shape c.self.inside.queues.items c.args.port c.args.tag c.in-Some.request.now
          c.self.invariant.framed.ports head.0 head.1 (first_at c.self.inside.cells) waiting c.block-block.result
          c.asking-asked.result.destination c.asking-asked.result.position c.first_in-first.result _
          (c.first_in-first.ensures c.block-block.result c.find.ensures)
          c.in_default-first.not-Present c.block-block.ensures
          c.asking-asked.ensures.destination c.asking-asked.ensures.position
          (c.if-room_in.ensures.value ∙ room_told c.self.inside.shape (g.O1.Organisation.seen c.self.inside.waiting)
          c.self.invariant.framed.file1 waiting alike.level1 c.block-block.result c.asking-asked.result.destination
          c.asking-asked.result.position);
      shape = refl;
      waiting = alike;
      known = refl;
    })
