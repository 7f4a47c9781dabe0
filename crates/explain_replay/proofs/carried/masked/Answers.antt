use Rattle.std.proofs.Common.{sym, arith}
use Rattle.lf_rules.proofs.Bytes.{taken_more, passed_over}
use Rattle.explain_replay.proofs.carried.masked.Goals as goal
use Rattle.explain_replay.proofs.carried.masked.Goals.{then-is_under, else-is_under}

pub loop-i-preserved : goal.loop-i-preserved
loop-i-preserved c = elim c.if-is_under.branch [
  | then-is_under w ↦ rw w.few-is (record {
    taken = taken_more _ _ c.loop-i.i _ _ _ (sym w.if-is_under.ensures) w.push.ensures.items w.byte_at.ensures
        c.loop-i.invariant.taken;
    count = omega arith;
  })
  | else-is_under w ↦ rw w.few-is (record {
    taken = passed_over _ _ c.loop-i.i _ (sym w.if-is_under.ensures)
        c.loop-i.invariant.taken;
    count = omega arith;
  })
]
