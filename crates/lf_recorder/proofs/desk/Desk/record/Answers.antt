use Rattle.std.proofs.Common.{refl, rules}
use Rattle.lf_recorder.proofs.desk.Desk.record.Goals as goal

pub draw-requires : goal.draw-requires
draw-requires c = record {
  table = search rules;
  seat = search rules;
  bank = search rules;
  room = search rules;
  event = refl;
}

pub invariant_of-seat : goal.invariant_of-seat
invariant_of-seat c = search rules
