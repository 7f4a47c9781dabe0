use Rattle.std.proofs.Common.{◌≡◌, ◌≤◌, ◌-◌, length, take}
use Rattle.lf_codec.specs.Reader.{CanLend}
use Rattle.lf_verdict.specs.Standing.{Counts, IsKnown}
use Rattle.lf_verdict.specs.inner.Taking.{RunsOn}
use Rattle.lf_verdict.proofs.session.intake.judge_run.Given as goal

abbrev pub invariant-loop-n : goal.invariant-loop-n
invariant-loop-n l = record {
  within : l.at ≤ length l.bytes;
  lends : CanLend l.reader;
  fault : l.reader.fault ≡ l.fn.reader.fault;
  run : RunsOn l.fn.reader l.fn.standing (take l.at l.bytes) l.reader l.standing;
  known : IsKnown l.fn.standing.watch → IsKnown l.standing.watch;
  counts : Counts l.fn.standing → Counts l.standing;
}

abbrev pub decreases-loop-n : goal.decreases-loop-n
decreases-loop-n l = length l.bytes - l.at
