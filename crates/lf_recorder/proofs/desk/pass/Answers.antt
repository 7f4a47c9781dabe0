use Rattle.std.proofs.Common.{◌+◌, ◌%◌, ◌^◌, sym, subst, arith}
use mathlib.Core.Option.{none}
use Rattle.atomic_table.specs.Table.{step, Allows}
use Rattle.lf_recorder.specs.Rule.{HasRecords, Mine, Passes}
use Rattle.lf_recorder.proofs.Steps.{passes}
use Rattle.lf_recorder.proofs.desk.pass.Goals as goal

pub fetch_add-requires : goal.fetch_add-requires
fetch_add-requires c =
    let table = c.requires.table in
    let shared = c.args.shared.now in
    let slots = shared.table_id.slots in
    let seat = c.args.seat.now in (
      table.0,
      table.1,
      subst
          (λ (me : Mine). Allows (HasRecords shared.key) slots seat.id me 0 (λ n. (n + 0) % 2 ^ 64)
          (Passes (step slots 0 0 0 none) me))
          (sym c.requires.seat)
          (passes shared.key slots seat.id c.args.log c.args.records.now.items (omega arith) c.requires.room),
    )
