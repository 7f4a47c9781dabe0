use Rattle.std.proofs.Common.{sym, ◌∙◌, arith}
use Rattle.lf_replay.proofs.Runs.{order_next}
use Rattle.bank_tests.proofs.judged.is_bank_order.Goals as goal

pub loop-at-preserved : goal.loop-at-preserved
loop-at-preserved c = order_next c.args.shape.now c.args.bank c.args.records.now c.loop-at.at
    c.index-records-at.result (omega arith) c.index-records-at.is
    (c.fits.ensures.0 c.if-not-fits.false) (sym c.from.ensures ∙ c.if-from-bank.false) (omega arith) c.loop-at.invariant
