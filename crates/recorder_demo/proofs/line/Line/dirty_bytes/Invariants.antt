use Rattle.std.proofs.Common.{◌≤◌}
use Rattle.arrayvec.specs.ArrayVec.{array_vec_len}
use Rattle.recorder_demo.proofs.line.Line.dirty_bytes.Given as goal

abbrev pub invariant-loop-place : goal.invariant-loop-place
invariant-loop-place l = array_vec_len l.bytes ≤ l.place
