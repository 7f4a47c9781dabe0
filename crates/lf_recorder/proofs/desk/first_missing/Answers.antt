use borrow.Author.Count.{below_more}
use Rattle.lf_recorder.specs.Desk.{HasSeat}
use Rattle.lf_recorder.proofs.desk.first_missing.Goals as goal

pub loop-log-preserved : goal.loop-log-preserved
loop-log-preserved c = below_more (HasSeat c.args.seats.now.items) c.loop-log.log c.loop-log.invariant
    c.if-not-has_seat.ensures.yes
