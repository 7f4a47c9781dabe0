-- What has been written since the loop began is the logs so far.
use Rattle.std.proofs.Common.{take}
use Rattle.std.specs.Fmt.{HasWritten, IsPlainFormatter}
use Rattle.lf_verdict.specs.Text.{more_logs_text}
use Rattle.lf_verdict.proofs.text.RingLogsDisplay.fmt.Given as goal

abbrev pub invariant-loop-knot : goal.invariant-loop-knot
invariant-loop-knot g l =
    IsPlainFormatter l.initial.f → HasWritten g.W.Write.write_str_gives l.initial.f
    (more_logs_text (take l.knot-index l.others)) l.f
