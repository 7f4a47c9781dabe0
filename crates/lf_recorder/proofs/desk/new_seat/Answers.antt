use Rattle.std.proofs.Common.{[], sym, subst}
use Rattle.atomic_table.specs.Table.{Splits}
use Rattle.lf_recorder.specs.Rule.{HasRecords, Mine, one_more, next_log}
use Rattle.lf_recorder.proofs.Steps.{opens}
use Rattle.lf_recorder.proofs.desk.new_seat.Goals as goal

pub split_seat-seat-requires : goal.split_seat-seat-requires
split_seat-seat-requires c =
    let shared = c.args.shared.now in
    let seat = c.args.collector.now in (
      c.requires.table.0,
      c.requires.table.1,
      subst (λ (me : Mine). Splits (HasRecords shared.key) seat.id me.0 (one_more me.0) (next_log me.0))
          (sym c.requires.made.0) (opens shared.key seat.id c.args.log [] c.requires.made.1),
    )
