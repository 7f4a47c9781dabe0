use Rattle.std.proofs.Common.{refl, arith}
use Rattle.bank_state.proofs.Bytes.{more_read}
use Rattle.lf_replay.proofs.seen.block_bytes.Goals as goal

pub loop-i-preserved : goal.loop-i-preserved
loop-i-preserved c = record {
  read = more_read _ c.loop-i.i c.push.ensures.items c.loop-i.invariant.read refl;
  count =
      omega arith;
}
