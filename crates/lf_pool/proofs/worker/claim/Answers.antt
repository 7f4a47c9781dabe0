use Rattle.std.proofs.Common.{◌+◌, ◌%◌, ◌^◌, sym, subst}
use mathlib.Core.Option.{none}
use Rattle.atomic_table.specs.Table.{step, Allows}
use Rattle.lf_pool.specs.Rule.{AreClaimed, Mine, Claims}
use Rattle.std.specs.Prelude.{All, ◌<◌}
use Rattle.lf_pool.specs.Rule.{claims_of}
use Rattle.lf_pool.proofs.Steps.{claims}
use Rattle.lf_pool.proofs.Work.{none_past, above_low}
use Rattle.lf_pool.proofs.worker.claim.Goals as goal

pub fetch_add-requires : goal.fetch_add-requires
fetch_add-requires c =
    let shared = c.args.shared.now in
    let slots = shared.table_id.slots in
    let seat = c.args.seat.now in (
      c.requires.table.0,
      c.requires.table.1,
      subst
          (λ (me : Mine). Allows (AreClaimed shared.key) slots seat.id me 0 (λ n. (n + 1) % 2 ^ 64)
          (Claims (step slots 0 1 0 none) me))
          (sym c.requires.seat)
          (claims shared.key slots seat.id c.args.number _ (none_past shared.key c.args.done.now.items
          c.requires.done) c.requires.table.2),
    )

pub returns-clause-above : goal.returns-clause-above
returns-clause-above c =
    above_low c.args.low c.fetch_add.result c.args.done.now.items c.requires.low
    (subst (λ (me : Mine). All (λ x. x < c.fetch_add.result) (claims_of me.0)) c.requires.seat c.fetch_add.ensures.2.1)
