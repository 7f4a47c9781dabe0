use Rattle.std.proofs.Common.{ℕ, ◌+◌, ◌%◌, ◌^◌, sym, subst, arith}
use mathlib.Core.Option.{none}
use Rattle.atomic_table.specs.Table.{step, Allows}
use Rattle.lf_recorder.specs.Rule.{HasRecords, Mine, Draws}
use Rattle.lf_recorder.proofs.Steps.{draws}
use Rattle.lf_recorder.proofs.desk.draw.Goals as goal

pub fetch_add-requires : goal.fetch_add-requires
fetch_add-requires g c =
    let table = c.requires.table in
    let shared = c.args.shared.now in
    let slots = shared.table_id.slots in
    let seat = c.args.seat.now in
    let event = g.N.Noted.event in (
      table.0,
      omega arith,
      subst
          (λ (z : Mine × ℕ). Allows (HasRecords shared.key) slots seat.id z.0 z.1 (λ n. (n + 1) % 2 ^ 64)
          (Draws event (step slots z.1 1 0 none) z.0))
          (λ i. (sym c.requires.seat i, sym c.from.ensures i))
          (draws shared.key slots seat.id c.args.log c.args.records.now.items c.args.bank event (omega arith)
          c.requires.bank c.requires.room),
    )
