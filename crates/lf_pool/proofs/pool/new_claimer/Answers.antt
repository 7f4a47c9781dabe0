use Rattle.std.proofs.Common.{[], sym, subst}
use Rattle.atomic_table.specs.Table.{Splits}
use Rattle.lf_pool.specs.Rule.{AreClaimed, Mine, one_more, next_worker}
use Rattle.lf_pool.proofs.Steps.{opens}
use Rattle.lf_pool.proofs.pool.new_claimer.Goals as goal

pub split_seat-seat-requires : goal.split_seat-seat-requires
split_seat-seat-requires c =
    let shared = c.args.shared.now in
    let seat = c.args.keeper.now in (
      c.requires.table.0,
      c.requires.table.1,
      subst (λ (me : Mine). Splits (AreClaimed shared.key) seat.id me.0 (one_more me.0) (next_worker me.0))
          (sym c.requires.made.0) (opens shared.key seat.id c.args.number [] c.requires.made.1),
    )
