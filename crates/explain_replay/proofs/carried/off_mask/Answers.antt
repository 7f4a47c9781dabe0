use Rattle.std.proofs.Common.{arith}
use Rattle.bank_state.proofs.Bytes.{more_read}
use Rattle.explain_replay.proofs.carried.off_mask.Goals as goal

pub loop-i-preserved : goal.loop-i-preserved
loop-i-preserved c =
    record {
      read = more_read _ c.loop-i.i c.push.ensures.items c.loop-i.invariant.read c.judged_or_found.ensures;
      count = omega arith;
    }
